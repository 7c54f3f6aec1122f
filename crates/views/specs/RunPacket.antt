-- The output of `scionet_view packet --packet`: a packet of a run, and what the next router makes
-- of it, as a frame or as a whole packet.
use Rattle.std.specs.Prelude.{ℕ, codes, List, [], ◌∷◌, ◌++◌, Option, Some, None, slice_get, Result, Ok, Err}
use Rattle.std.specs.Fmt.{decimal}
use Rattle.isd_as.specs.Address.{canonical}
use Rattle.scion_topology.specs.Network.{Network}
use Rattle.scion_topology.specs.Topology.{view_in}
use Rattle.scion_topology.specs.View.{View}
use Rattle.scion_topology.specs.declared.fault.TopologyFault.{TopologyFault}
use Rattle.policy_expr.specs.declared.hop.WalkHop.{WalkHop}
use Rattle.router_step.specs.declared.arrival.Arrival.{Arrival}
use Rattle.router_step.specs.Fault.{refusal_text}
use Rattle.forwarding.specs.declared.location.PacketLocation.{PacketLocation}
use Rattle.forwarding.specs.declared.location.PacketLocation.TheVariants.{AtRouter, Delivered, Refused, Lost}
use Rattle.network_core.specs.declared.fault.EventFault.{EventFault}
use Rattle.network_core.specs.declared.fault.EventFault.TheVariants.{NoPacket}
use Rattle.network_core.specs.Value.{NetValue, PacketValue}
use Rattle.event_lines.specs.Text.{hops_text}
use Rattle.packet_view.specs.Fields.{fields_text}
use Rattle.packet_view.specs.Lines.{turn_lines}
use Rattle.packet_view.specs.Whole.{packet_fault_line, whole_fields_text, whole_turn_lines}
use Rattle.scion_packet.specs.declared.fault.PacketFault.{PacketFault}
use Rattle.scion_packet.specs.Value.{PacketInfoValue, WholePacketValue}
use Rattle.scion_packet.specs.Spelling.{packet_spelling}
use Rattle.wire_packets.specs.Wrapped.{wrapped}

-- a router by its number and its AS
unfoldable pub router_name : (ia router : ℕ) → List ℕ
router_name ia router = codes "router " ++ (decimal router ++ (codes " of " ++ canonical ia))

-- the line about where a packet is
unfoldable pub place_line : PacketLocation → List ℕ
place_line (AtRouter stop) = codes "at " ++ (router_name stop.ia stop.router ++ codes "\n")
place_line Delivered = codes "delivered\n"
place_line (Refused ia router refusal) =
    codes "refused by " ++ (router_name ia router ++ (codes ": " ++ (refusal_text refusal ++ codes "\n")))
place_line Lost = codes "lost\n"

-- the line of the hops that it has passed
unfoldable pub passed_line : List WalkHop → List ℕ
passed_line [] = codes "passed no hop\n"
passed_line (hop ∷ hops) = codes "passed " ++ (hops_text (hop ∷ hops) ++ codes "\n")

-- a packet at the router with this view: the lines of its turn; its fields, if there is no router
abbrev pub lines_at : (now : ℕ) (arrival : Arrival) (packet : List ℕ) → Result View TopologyFault
    → List ℕ
lines_at now arrival packet (Ok view) = turn_lines view now arrival packet
lines_at now arrival packet (Err fault) = fields_text packet

-- what the next router makes of a packet in this place
abbrev pub next_lines : (network : Network) (now : ℕ) (packet : List ℕ) → PacketLocation → List ℕ
next_lines network now packet (AtRouter stop) =
    lines_at now stop.arrival packet (view_in network stop.ia stop.router)
next_lines network now packet place = fields_text packet

-- a packet of a network, if there is one
abbrev pub packet_state : NetValue → Option PacketValue → Result (List ℕ) EventFault
packet_state net None = Err NoPacket
packet_state net (Some one) = Ok (place_line one.packet.place ++ (passed_line one.packet.passed
    ++ next_lines net.network net.moment one.packet.bytes one.packet.place))

-- ---- as a whole packet

-- the same of a whole packet
abbrev pub whole_lines_at : (now : ℕ) (arrival : Arrival) (packet : List ℕ)
    → Result View TopologyFault → List ℕ
whole_lines_at now arrival packet (Ok view) = whole_turn_lines view now arrival packet
whole_lines_at now arrival packet (Err fault) = whole_fields_text packet

abbrev pub whole_next_lines : (network : Network) (now : ℕ) (packet : List ℕ) → PacketLocation
    → List ℕ
whole_next_lines network now packet (AtRouter stop) =
    whole_lines_at now stop.arrival packet (view_in network stop.ia stop.router)
whole_next_lines network now packet place = whole_fields_text packet

-- the same of the whole packet of a frame, or why there is none
abbrev pub wrapped_lines : (network : Network) (now : ℕ) → PacketLocation
    → Result WholePacketValue PacketFault → List ℕ
wrapped_lines network now place (Ok packet) =
    whole_next_lines network now (packet_spelling packet) place
wrapped_lines network now place (Err fault) = packet_fault_line fault ++ codes "\n"

-- the whole packet of a packet of a network, if there is one
abbrev pub whole_state : PacketInfoValue → NetValue → Option PacketValue
    → Result (List ℕ) EventFault
whole_state info net None = Err NoPacket
whole_state info net (Some one) = Ok (place_line one.packet.place
    ++ (passed_line one.packet.passed ++ wrapped_lines net.network net.moment one.packet.place
    (wrapped info one.packet.bytes)))
