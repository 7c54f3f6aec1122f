-- The output of `scionet_view wrap`, and that of `scionet_view capture`.
use Rattle.std.specs.Prelude.{ℕ, codes, List, ◌++◌, Option, Some, None, slice_get, Result, Ok, Err}
use Rattle.event_lines.specs.declared.accepted.AcceptedLines.TheVariants.{All}
use Rattle.event_lines.specs.Run.{Listens}
use Rattle.hex.specs.Hex.{encode_lower}
use Rattle.network_core.specs.declared.fault.EventFault.{EventFault}
use Rattle.network_core.specs.declared.fault.EventFault.TheVariants.{NoPacket}
use Rattle.network_core.specs.Value.{NetValue, PacketValue}
use Rattle.scion_packet.specs.declared.fault.PacketFault.{PacketFault}
use Rattle.scion_packet.specs.Value.{PacketInfoValue, WholePacketValue}
use Rattle.scion_packet.specs.Spelling.{packet_spelling}
use Rattle.wire_packets.specs.Wrapped.{wrapped}
use Rattle.packet_view.specs.Whole.{packet_fault_line}

-- the bytes of a whole packet in hexadecimal, or why there is none
abbrev pub whole_text : Result WholePacketValue PacketFault → List ℕ
whole_text (Ok packet) = encode_lower (packet_spelling packet) ++ codes "\n"
whole_text (Err fault) = packet_fault_line fault ++ codes "\n"

-- the whole packet of a packet of the network, if there is one
abbrev pub wrapped_text : PacketInfoValue → Option PacketValue → Result (List ℕ) EventFault
wrapped_text info None = Err NoPacket
wrapped_text info (Some packet) = Ok (whole_text (wrapped info packet.packet.bytes))

-- the line about the packet of this number
abbrev pub wrapped_line : PacketInfoValue → ℕ → NetValue → Result (List ℕ) EventFault
wrapped_line info number net = wrapped_text info (slice_get net.packets number)

-- the replies to the lines of this input were written. The contents are what their sink held before
-- and after it.
abbrev pub Answers : (input : List ℕ) (told tells : Option (List ℕ)) → Type 0
Answers input told tells = (net : NetValue) × (left : Option (List ℕ))
    × Listens All (Ok net) (Some input) left told tells
