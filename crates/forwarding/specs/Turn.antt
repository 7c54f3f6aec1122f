-- One turn of a packet in a network: the router that has the packet makes its step on the packet's
-- bytes, and the outcome says where the packet goes (draft-dekater-scion-dataplane).
use Rattle.std.specs.Prelude.{◌≢◌, ℕ, List, [], ◌∷◌, ◌++◌, length, nat_lt, if◌then◌else◌, bit_xor, slice_index, slice_set, Option, Some, None, Result, Ok, Err}
use Rattle.refusal.specs.Refusal.{◌>>=◌}
use Rattle.std.specs.Result.{result_unwrap_or}
use Rattle.scion_topology.specs.declared.fault.TopologyFault.{TopologyFault}
use Rattle.scion_topology.specs.View.{View}
use Rattle.scion_topology.specs.Network.{Network}
use Rattle.scion_topology.specs.Topology.{view_in, far_end_in, owner_in}
use Rattle.policy_expr.specs.declared.hop.WalkHop.{WalkHop}
use Rattle.router_step.specs.declared.arrival.Arrival.{Arrival}
use Rattle.router_step.specs.declared.arrival.Arrival.TheVariants.{FromHost, Inside, Link}
use Rattle.router_step.specs.declared.outcome.Outcome.{Outcome}
use Rattle.router_step.specs.declared.outcome.Outcome.TheVariants.{ToLink, ToRouter, Deliver}
use Rattle.router_step.specs.declared.fault.Refusal.{Refusal}
use Rattle.router_step.specs.Packet.{packet_step}
use Rattle.forwarding.specs.declared.location.RouterStop.{RouterStop}
use Rattle.forwarding.specs.declared.location.PacketLocation.{PacketLocation}
use Rattle.forwarding.specs.declared.location.PacketLocation.TheVariants.{AtRouter, Delivered, Refused, Lost}
use Rattle.forwarding.specs.declared.reply.TurnReply.{TurnReply}
use Rattle.forwarding.specs.declared.reply.TurnReply.TheVariants as replies

-- a packet: its bytes, where it is, and the hops that it has passed
pub record Packet : Type 0 where
  pub bytes : List ℕ
  pub place : PacketLocation
  pub passed : List WalkHop

-- the packet of these bytes that is there and has passed these hops
abbrev pub packet_with : List ℕ → PacketLocation → List WalkHop → Packet
packet_with bytes place passed = record { bytes = bytes; place = place; passed = passed }

-- the stop at a router to which a packet came so, by this interface of the AS
abbrev pub stop_at : (ia router : ℕ) (arrival : Arrival) (came_in_by : ℕ) → RouterStop
stop_at ia router arrival came_in_by =
    record { ia = ia; router = router; arrival = arrival; came_in_by = came_in_by }

-- a packet of these bytes that a host sends, at this router of the host's AS
abbrev pub put_at : (bytes : List ℕ) (ia router : ℕ) → Packet
put_at bytes ia router =
    record { bytes = bytes; place = AtRouter (stop_at ia router FromHost 0); passed = [] }

-- the passed hops with this one added; a packet keeps at most 64
abbrev pub with_passed_hop : List WalkHop → WalkHop → List WalkHop
with_passed_hop passed hop = if nat_lt (length passed) 64 then passed ++ hop ∷ [] else passed

-- the passed hops with that of a turn added, if a hop was passed in it
abbrev pub with_hop_of_turn : List WalkHop → Option WalkHop → List WalkHop
with_hop_of_turn passed (Some hop) = with_passed_hop passed hop
with_hop_of_turn passed None = passed

-- the hop of the AS in which the packet is, left by this interface
abbrev pub hop_by : RouterStop → ℕ → WalkHop
hop_by stop out = record { ia = stop.ia; ingress = stop.came_in_by; egress = out }

-- the packet at the router that owns the far end of a link; if there is none, the packet as it was
abbrev pub at_owner : Packet → RouterStop → (out ia number : ℕ) → Result ℕ TopologyFault → Packet
at_owner packet stop out ia number (Ok router) =
    let passed = with_passed_hop packet.passed (hop_by stop out) in
    record packet { place = AtRouter (stop_at ia router (Link number) number); passed = passed }
at_owner packet stop out ia number (Err fault) = packet

abbrev pub over_link : Network → Packet → RouterStop → ℕ → Result (ℕ × ℕ) TopologyFault → Packet
over_link n packet stop out (Ok end) = at_owner packet stop out end.0 end.1 (owner_in n end.0 end.1)
over_link n packet stop out (Err fault) = packet

-- the packet after a router's outcome
abbrev pub after_outcome : Network → Packet → RouterStop → Outcome → Packet
after_outcome n packet stop (ToLink out) = over_link n packet stop out (far_end_in n stop.ia out)
after_outcome n packet stop (ToRouter router) =
    record packet { place = AtRouter (record stop { router = router; arrival = Inside }) }
after_outcome n packet stop Deliver =
    record packet { place = Delivered; passed = with_passed_hop packet.passed (hop_by stop 0) }

-- the reply of a turn and the packet after it: a step that succeeds gives new bytes and a new
-- place, and a refusal only a new place
abbrev pub after_step : Network → Packet → RouterStop → Result (Outcome × List ℕ) Refusal
    → TurnReply × Packet
after_step n packet stop (Ok done) =
    (replies.Went done.0, after_outcome n (record packet { bytes = done.1 }) stop done.0)
after_step n packet stop (Err refusal) =
    (replies.Refused refusal, record packet { place = Refused stop.ia stop.router refusal })

-- the reply and the packet if no router makes a step: the packet is as it was
abbrev pub still : Packet → TurnReply × Packet
still packet = (replies.Still, packet)

-- the turn of the router that has the packet, with the network's view of it; if there is no such
-- router, no step is made
abbrev pub by_place : Network → ℕ → Packet → PacketLocation → TurnReply × Packet
by_place n now packet (AtRouter stop) = result_unwrap_or (do
  view ← view_in n stop.ia stop.router
  Ok (after_step n packet stop (packet_step view now stop.arrival packet.bytes))) (still packet)
by_place n now packet place = still packet

-- one turn: the reply, and the packet after it; a packet that is at no router stays as it is
unfoldable pub turn_of : Network → ℕ → Packet → TurnReply × Packet
turn_of n now packet = by_place n now packet packet.place

-- `turn_of` with a given view in place of the network's
abbrev pub at_place : Network → View → ℕ → Packet → PacketLocation → TurnReply × Packet
at_place n view now packet (AtRouter stop) =
    after_step n packet stop (packet_step view now stop.arrival packet.bytes)
at_place n view now packet place = still packet

unfoldable pub turn_under : Network → View → ℕ → Packet → TurnReply × Packet
turn_under n view now packet = at_place n view now packet packet.place

-- the packet after a turn
abbrev pub turned_packet : Network → ℕ → Packet → Packet
turned_packet n now packet = (turn_of n now packet).1

-- the packet after a turn at each of these seconds
abbrev pub after : Network → Packet → List ℕ → Packet
after n packet [] = packet
after n packet (now ∷ later) = after n (turned_packet n now packet) later

-- the packet is at no router: it was delivered, refused or lost
abbrev pub IsAtNoRouter : Packet → Type 0
IsAtNoRouter packet = (stop : RouterStop) → packet.place ≢ AtRouter stop

-- the packet after it was lost on its way
abbrev pub lost_packet : Packet → Packet
lost_packet packet = record packet { place = Lost }

-- the packet with this byte changed by exclusive or
abbrev pub altered_packet : (packet : Packet) (at change : ℕ) → Packet
altered_packet packet at change = record packet {
  bytes = slice_set packet.bytes at (bit_xor (slice_index packet.bytes at) change);
}
