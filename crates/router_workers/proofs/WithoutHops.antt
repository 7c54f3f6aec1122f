-- A turn of a packet does not read the hops that the packet has passed.
use Rattle.std.proofs.Common.{◌≡◌, ℕ, List, Result, Ok, Err, refl}
use Rattle.refusal.specs.Refusal.{◌>>=◌}
use Rattle.std.specs.Result.{result_unwrap_or}
use Rattle.scion_topology.specs.declared.fault.TopologyFault.{TopologyFault}
use Rattle.scion_topology.specs.View.{View}
use Rattle.scion_topology.specs.Network.{Network}
use Rattle.scion_topology.specs.Topology.{view_in, far_end_in, owner_in}
use Rattle.router_step.specs.declared.outcome.Outcome.{Outcome}
use Rattle.router_step.specs.declared.outcome.Outcome.TheVariants.{ToLink, ToRouter, Deliver}
use Rattle.router_step.specs.declared.fault.Refusal.{Refusal}
use Rattle.router_step.specs.Packet.{packet_step}
use Rattle.forwarding.specs.declared.location.RouterStop.{RouterStop}
use Rattle.forwarding.specs.declared.location.PacketLocation.{PacketLocation}
use Rattle.forwarding.specs.declared.location.PacketLocation.TheVariants.{AtRouter, Delivered, Refused, Lost}
use Rattle.forwarding.specs.Turn.{Packet, at_owner, over_link, after_outcome, after_step, by_place, turn_of, turned_packet, still}
use Rattle.router_workers.specs.inner.Run.{without_hops}

by_owner : (packet : Packet) (stop : RouterStop) (out ia number : ℕ)
    (owner : Result ℕ TopologyFault)
    → without_hops (at_owner (without_hops packet) stop out ia number owner)
    ≡ without_hops (at_owner packet stop out ia number owner)
by_owner packet stop out ia number (Ok router) = refl
by_owner packet stop out ia number (Err fault) = refl

by_link : (n : Network) (packet : Packet) (stop : RouterStop) (out : ℕ)
    (far : Result (ℕ × ℕ) TopologyFault)
    → without_hops (over_link n (without_hops packet) stop out far)
    ≡ without_hops (over_link n packet stop out far)
by_link n packet stop out (Ok end) =
    by_owner packet stop out end.0 end.1 (owner_in n end.0 end.1)
by_link n packet stop out (Err fault) = refl

by_outcome : (n : Network) (packet : Packet) (stop : RouterStop) (outcome : Outcome)
    → without_hops (after_outcome n (without_hops packet) stop outcome)
    ≡ without_hops (after_outcome n packet stop outcome)
by_outcome n packet stop (ToLink out) = by_link n packet stop out (far_end_in n stop.ia out)
by_outcome n packet stop (ToRouter router) = refl
by_outcome n packet stop Deliver = refl

by_step : (n : Network) (packet : Packet) (stop : RouterStop)
    (result : Result (Outcome × List ℕ) Refusal)
    → without_hops (after_step n (without_hops packet) stop result).1
    ≡ without_hops (after_step n packet stop result).1
by_step n packet stop (Ok done) = by_outcome n (record packet { bytes = done.1 }) stop done.0
by_step n packet stop (Err refusal) = refl

by_view : (n : Network) (now : ℕ) (packet : Packet) (stop : RouterStop)
    (view : Result View TopologyFault)
    → without_hops (result_unwrap_or (view >>= λ (seen : View). Ok
    (after_step n (without_hops packet) stop (packet_step seen now stop.arrival packet.bytes)))
    (still (without_hops packet))).1
    ≡ without_hops (result_unwrap_or (view >>= λ (seen : View). Ok
    (after_step n packet stop (packet_step seen now stop.arrival packet.bytes))) (still packet)).1
by_view n now packet stop (Ok view) =
    by_step n packet stop (packet_step view now stop.arrival packet.bytes)
by_view n now packet stop (Err fault) = refl

at_place : (n : Network) (now : ℕ) (packet : Packet) (place : PacketLocation)
    → without_hops (by_place n now (without_hops packet) place).1
    ≡ without_hops (by_place n now packet place).1
at_place n now packet (AtRouter stop) =
    by_view n now packet stop (view_in n stop.ia stop.router)
at_place n now packet Delivered = refl
at_place n now packet (Refused ia router refusal) = refl
at_place n now packet Lost = refl

pub turned_without_hops : (n : Network) (now : ℕ) (packet : Packet)
    → without_hops (turned_packet n now (without_hops packet))
    ≡ without_hops (turned_packet n now packet)
unfolding turn_of
turned_without_hops n now packet = at_place n now packet packet.place
