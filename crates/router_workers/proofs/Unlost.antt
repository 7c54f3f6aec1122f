-- No turn loses a packet.
use Rattle.std.proofs.Common.{ℕ, List, [], ◌∷◌, Result, Ok, Err, sym, subst}
use Rattle.refusal.specs.Refusal.{◌>>=◌}
use Rattle.std.specs.Result.{result_unwrap_or}
use Rattle.scion_topology.specs.declared.fault.TopologyFault.{TopologyFault}
use Rattle.scion_topology.specs.View.{View}
use Rattle.scion_topology.specs.Network.{Network}
use Rattle.scion_topology.specs.Topology.{view_in, far_end_in, owner_in}
use Rattle.router_step.specs.declared.outcome.Outcome.{Outcome}
use Rattle.router_step.specs.declared.outcome.Outcome.TheVariants.{ToLink, ToRouter, Deliver}
use Rattle.router_step.specs.declared.fault.Refusal.{Refusal}
use Rattle.router_step.specs.Packet.{packet_step}
use Rattle.forwarding.specs.declared.location.RouterStop.{RouterStop}
use Rattle.forwarding.specs.declared.location.PacketLocation.{PacketLocation}
use Rattle.forwarding.specs.declared.location.PacketLocation.TheVariants.{AtRouter, Delivered, Refused, Lost}
use Rattle.forwarding.specs.Turn.{Packet, at_owner, over_link, after_outcome, after_step, by_place, turn_of, turned_packet, after, still}
use Rattle.router_workers.specs.Flight.{FlightValue, IsFlight}
use Rattle.router_workers.proofs.Delivered.{departs}

abbrev pub IsUnlost : PacketLocation → Type 0
IsUnlost Lost = ⊥
IsUnlost place = Unit {0}

owner_unlost : (packet : Packet) (stop : RouterStop) (out ia number : ℕ) (owner : Result ℕ TopologyFault)
    → IsUnlost packet.place → IsUnlost (at_owner packet stop out ia number owner).place
owner_unlost packet stop out ia number (Ok router) is = tt
owner_unlost packet stop out ia number (Err fault) is = is

link_unlost : (n : Network) (packet : Packet) (stop : RouterStop) (out : ℕ)
    (far : Result (ℕ × ℕ) TopologyFault) → IsUnlost packet.place
    → IsUnlost (over_link n packet stop out far).place
link_unlost n packet stop out (Ok end) is =
    owner_unlost packet stop out end.0 end.1 (owner_in n end.0 end.1) is
link_unlost n packet stop out (Err fault) is = is

put_unlost : (n : Network) (packet : Packet) (stop : RouterStop) (outcome : Outcome)
    → IsUnlost packet.place → IsUnlost (after_outcome n packet stop outcome).place
put_unlost n packet stop (ToLink out) is = link_unlost n packet stop out (far_end_in n stop.ia out) is
put_unlost n packet stop (ToRouter router) is = tt
put_unlost n packet stop Deliver is = tt

stepped_unlost : (n : Network) (packet : Packet) (stop : RouterStop)
    (result : Result (Outcome × List ℕ) Refusal) → IsUnlost packet.place
    → IsUnlost (after_step n packet stop result).1.place
stepped_unlost n packet stop (Ok done) is =
    put_unlost n (record packet { bytes = done.1 }) stop done.0 is
stepped_unlost n packet stop (Err refusal) is = tt

view_unlost : (n : Network) (now : ℕ) (packet : Packet) (stop : RouterStop)
    (view : Result View TopologyFault) → IsUnlost packet.place
    → IsUnlost (result_unwrap_or (view >>= λ (seen : View). Ok
    (after_step n packet stop (packet_step seen now stop.arrival packet.bytes))) (still packet)).1.place
view_unlost n now packet stop (Ok view) is =
    stepped_unlost n packet stop (packet_step view now stop.arrival packet.bytes) is
view_unlost n now packet stop (Err fault) is = is

place_unlost : (n : Network) (now : ℕ) (packet : Packet) (place : PacketLocation)
    → IsUnlost packet.place → IsUnlost (by_place n now packet place).1.place
place_unlost n now packet (AtRouter stop) is =
    view_unlost n now packet stop (view_in n stop.ia stop.router) is
place_unlost n now packet Delivered is = is
place_unlost n now packet (Refused ia router refusal) is = is
place_unlost n now packet Lost is = is

turned_unlost : (n : Network) (now : ℕ) (packet : Packet) → IsUnlost packet.place
    → IsUnlost (turned_packet n now packet).place
unfolding turn_of
turned_unlost n now packet is = place_unlost n now packet packet.place is

after_unlost : (n : Network) (packet : Packet) (moments : List ℕ) → IsUnlost packet.place
    → IsUnlost (after n packet moments).place
after_unlost n packet [] is = is
after_unlost n packet (now ∷ later) is =
    after_unlost n (turned_packet n now packet) later (turned_unlost n now packet is)

-- so no flight is lost
pub flight_unlost : (flight : FlightValue) → IsFlight flight → IsUnlost flight.packet.place
flight_unlost flight is =
    let from = departs flight.fabric flight.sent is.start is.departs in
    let start : IsUnlost is.start.place = subst (λ (p : Packet). IsUnlost p.place) (sym from.is) tt in
    subst (λ (p : Packet). IsUnlost p.place) (sym is.is)
    (after_unlost flight.fabric is.start is.moments start)
