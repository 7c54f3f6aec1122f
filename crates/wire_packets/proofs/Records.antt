-- The record of a datagram whose packet was spelled.
use Rattle.std.proofs.Common.{◌≡◌, ℕ, List, ◌++◌, Ok, ap, sym, ◌∙◌, append-nil}
use Rattle.std.specs.Prelude.{flat_map}
use Rattle.path_header.specs.Value.{HeaderValue}
use Rattle.router_step.specs.Packet.{destination_of, source_of}
use Rattle.scion_packet.specs.Value.{PacketInfoValue}
use Rattle.scion_packet.specs.Spelling.{SpellsPacket}
use Rattle.wire_packets.specs.declared.file.Hop.{Hop}
use Rattle.wire_packets.specs.Datagram.{sent_as}
use Rattle.wire_packets.specs.File.{datagram_record, file_record}
use Rattle.wire_packets.specs.Wrapped.{parts_in, wrapped}

pub sent_record : (hop : Hop) (info : PacketInfoValue) (frame : List ℕ) (header : HeaderValue)
    (payload bytes old new : List ℕ) → parts_in frame ≡ Ok (header, payload)
    → SpellsPacket bytes (record {
      info = info;
      destination = destination_of frame;
      source = source_of frame;
      header = header;
      payload = payload;
    }) → new ≡ old ++ file_record hop bytes
    → new ≡ old ++ flat_map datagram_record (sent_as hop (wrapped info frame))
sent_record hop info frame header payload bytes old new parts spells grows =
    rw parts (grows ∙ ap (λ b. old ++ file_record hop b) spells.spelled
    ∙ ap (λ l. old ++ l) (sym (append-nil (file_record hop _))))
