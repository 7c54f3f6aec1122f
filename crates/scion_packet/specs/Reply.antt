-- The reply to a whole packet, over the way back.
use Rattle.std.specs.Prelude.{◌≡◌, List, ℕ, Result, Ok, Err}
use Rattle.path_header.specs.Reversal.{reversed_header}
use Rattle.scion_packet.specs.declared.fault.PacketFault.{PacketFault}
use Rattle.scion_packet.specs.Value.{PacketInfoValue, WholePacketValue}
use Rattle.scion_packet.specs.Spelling.{SpellsPacket}

-- what the reply to a packet says: the same with both hosts exchanged
abbrev pub reply_info : PacketInfoValue → PacketInfoValue
reply_info info =
    record info { destination_host = info.source_host; source_host = info.destination_host }

-- the reply to a packet: hosts and ASes are exchanged, the path is that of the way back, and the
-- payload is the same
abbrev pub reply_to : WholePacketValue → WholePacketValue
reply_to v = record {
  info = reply_info v.info;
  destination = v.source;
  source = v.destination;
  header = reversed_header v.header;
  payload = v.payload;
}

-- the bytes spell the reply to the packet that was read; or it is refused, and they are as they
-- were
abbrev pub IsReplied : (packet : Result WholePacketValue PacketFault) (old new : List ℕ)
    (result : Result (Unit {0}) PacketFault) → Type 0
IsReplied (Ok v) old new result = (result ≡ Ok tt) × SpellsPacket new (reply_to v)
IsReplied (Err fault) old new result = (result ≡ Err fault) × (new ≡ old)
