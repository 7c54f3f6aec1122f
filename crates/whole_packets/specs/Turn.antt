-- Turns of whole packets in a network: as those of its packets, with `whole_packet_step` in place
-- of `packet_step`.
use Rattle.std.specs.Prelude.{ℕ, List, [], ◌∷◌, Result, Ok, Err}
use Rattle.std.specs.Result.{result_unwrap_or}
use Rattle.refusal.specs.Refusal.{◌>>=◌}
use Rattle.scion_topology.specs.Network.{Network}
use Rattle.scion_topology.specs.Topology.{view_in}
use Rattle.router_step.specs.declared.outcome.Outcome.{Outcome}
use Rattle.scion_packet.specs.declared.fault.TurnRefusal.{TurnRefusal}
use Rattle.scion_packet.specs.declared.fault.TurnRefusal.TheVariants as refusals
use Rattle.scion_packet.specs.Layout.{frame_in}
use Rattle.scion_packet.specs.Turn.{whole_packet_step}
use Rattle.forwarding.specs.declared.location.RouterStop.{RouterStop}
use Rattle.forwarding.specs.declared.location.PacketLocation.{PacketLocation}
use Rattle.forwarding.specs.declared.location.PacketLocation.TheVariants.{AtRouter, Refused}
use Rattle.forwarding.specs.declared.reply.TurnReply.{TurnReply}
use Rattle.forwarding.specs.declared.reply.TurnReply.TheVariants as replies
use Rattle.forwarding.specs.Turn.{Packet, after_outcome, still}

-- a whole packet as the network sees it: its frame, at the same place, with the same hops passed
abbrev pub frame_packet : Packet → Packet
frame_packet packet = record packet { bytes = frame_in packet.bytes }

-- the reply of a turn and the whole packet after it; bytes that are no whole packet stay where they
-- are
abbrev pub after_whole_step : Network → Packet → RouterStop → Result (Outcome × List ℕ) TurnRefusal
    → TurnReply × Packet
after_whole_step n packet stop (Ok done) =
    (replies.Went done.0, after_outcome n (record packet { bytes = done.1 }) stop done.0)
after_whole_step n packet stop (Err (refusals.Step refusal)) =
    (replies.Refused refusal, record packet { place = Refused stop.ia stop.router refusal })
after_whole_step n packet stop (Err (refusals.Packet fault)) = still packet

-- the turn of the router that has the packet, with the network's view of it; if there is no such
-- router, no step is made
abbrev pub whole_turn_by_place : Network → (now : ℕ) → Packet → PacketLocation → TurnReply × Packet
whole_turn_by_place n now packet (AtRouter stop) = result_unwrap_or (do
  view ← view_in n stop.ia stop.router
  Ok (after_whole_step n packet stop (whole_packet_step view now stop.arrival packet.bytes)))
    (still packet)
whole_turn_by_place n now packet place = still packet

-- one turn: the reply, and the whole packet after it
unfoldable pub whole_turn_of : Network → (now : ℕ) → Packet → TurnReply × Packet
whole_turn_of n now packet = whole_turn_by_place n now packet packet.place

-- the whole packet after a turn at each of these seconds
abbrev pub whole_packet_after : Network → Packet → (moments : List ℕ) → Packet
whole_packet_after n packet [] = packet
whole_packet_after n packet (now ∷ later) =
    whole_packet_after n (whole_turn_of n now packet).1 later
