-- A packet of a network as a whole packet, as it is on the wire.
use Rattle.std.specs.Prelude.{ℕ, ◌+◌, List, length, drop, nat_lt, not, Result, Ok, Err, Vec}
use Rattle.refusal.specs.declared.fault.OrMemory.{OrMemory}
use Rattle.refusal.specs.Refusal.{◌>>=◌, Fails, check, refused_as}
use Rattle.path_header.specs.Value.{HeaderValue}
use Rattle.path_header.specs.declared.fault.HeaderFault.TheVariants.{Short}
use Rattle.path_header.specs.Reading.{read_at}
use Rattle.router_step.specs.Packet.{destination_of, source_of}
use Rattle.scion_packet.specs.declared.fault.PacketFault.{PacketFault}
use Rattle.scion_packet.specs.declared.fault.PacketFault.TheVariants.{BadHeader, PayloadTooLarge}
use Rattle.scion_packet.specs.Value.{PacketInfoValue, WholePacketValue}
use Rattle.scion_packet.specs.Spelling.{SpellsPacket}

-- the path header and the payload of a frame: BadHeader with the header's refusal if it has no path
-- header, PayloadTooLarge above 65,535 bytes of payload
unfoldable pub parts_in : (frame : List ℕ) → Result (HeaderValue × List ℕ) PacketFault
parts_in frame = do
  _ ← check (not (nat_lt (length frame) 16)) (BadHeader Short)
  front ← refused_as BadHeader (read_at (drop 16 frame))
  _ ← check (not (nat_lt 65535 (length (drop (16 + front.1) frame)))) PayloadTooLarge
  Ok (front.0, drop (16 + front.1) frame)

-- the whole packet with the addresses, the path header and the payload of this frame, which says
-- besides what `info` says
abbrev pub wrapped : (info : PacketInfoValue) (frame : List ℕ) → Result WholePacketValue PacketFault
wrapped info frame = do
  parts ← parts_in frame
  Ok (record {
    info = info;
    destination = destination_of frame;
    source = source_of frame;
    header = parts.0;
    payload = parts.1;
  })

-- the bytes spell the wanted packet, or it is refused; or memory ran out for a packet that is not
-- refused
abbrev pub Wraps : {A : Type 0} → (result : Result (Vec ℕ A) (OrMemory PacketFault))
    (wanted : Result WholePacketValue PacketFault) → Type 0
Wraps (Ok bytes) (Ok packet) = SpellsPacket bytes.items packet
Wraps (Ok bytes) (Err fault) = ⊥
Wraps (Err error) wanted = Fails error wanted
