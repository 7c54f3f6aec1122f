-- Writing a whole packet to the front of a room.
use Rattle.std.specs.Prelude.{ℕ, length, nat_lt, if◌then◌else◌, Result, Ok, Err}
use Rattle.scion_packet.specs.declared.fault.PacketFault.{PacketFault}
use Rattle.scion_packet.specs.declared.fault.PacketFault.TheVariants.{PayloadTooLarge, RoomTooSmall}
use Rattle.scion_packet.specs.Value.{WholePacketValue, packet_len}

-- how many bytes are written to a room of this length, or why none
abbrev pub written_len : (v : WholePacketValue) (room : ℕ) → Result ℕ PacketFault
written_len v room = if nat_lt 65535 (length v.payload) then Err PayloadTooLarge
    else if nat_lt room (packet_len v) then Err RoomTooSmall
    else Ok (packet_len v)
