-- A packet that is at no router stays, and a turn by the view of its place is its turn.
use Rattle.std.proofs.Common.{◌≡◌, ◌≢◌, ℕ, Result, Ok, refl, sym, ap, ◌∙◌}
use Rattle.router_step.specs.Packet.{packet_step}
use Rattle.refusal.specs.Refusal.{◌>>=◌}
use Rattle.std.specs.Result.{result_unwrap_or}
use Rattle.scion_topology.specs.declared.fault.TopologyFault.{TopologyFault}
use Rattle.scion_topology.specs.View.{View}
use Rattle.scion_topology.specs.Network.{Network}
use Rattle.scion_topology.specs.Topology.{view_in}
use Rattle.forwarding.specs.declared.location.RouterStop.{RouterStop}
use Rattle.forwarding.specs.declared.location.PacketLocation.{PacketLocation}
use Rattle.forwarding.specs.declared.location.PacketLocation.TheVariants.{AtRouter, Delivered, Refused, Lost}
use Rattle.forwarding.specs.Turn.{Packet, still, at_place, by_place, turn_under, turn_of, after_step}

at_none : (n : Network) (now : ℕ) (packet : Packet) (place : PacketLocation)
    → ((stop : RouterStop) → place ≢ AtRouter stop) → by_place n now packet place ≡ still packet
at_none n now packet (AtRouter stop) none = absurd (none stop refl)
at_none n now packet Delivered none = refl
at_none n now packet (Refused ia router refusal) none = refl
at_none n now packet Lost none = refl

pub ended_stays : (n : Network) (now : ℕ) (packet : Packet)
    → ((stop : RouterStop) → packet.place ≢ AtRouter stop) → turn_of n now packet ≡ still packet
unfolding turn_of
ended_stays n now packet none = at_none n now packet packet.place none

pub turn_by_view : (n : Network) (now : ℕ) (packet : Packet) (stop : RouterStop) (view : View)
    → packet.place ≡ AtRouter stop → view_in n stop.ia stop.router ≡ Ok view
    → turn_under n view now packet ≡ turn_of n now packet
unfolding turn_of turn_under
turn_by_view n now packet stop view there is =
    ap (at_place n view now packet) there
    ∙ sym (ap (by_place n now packet) there
    ∙ ap (λ (v : Result View TopologyFault). result_unwrap_or (v >>= λ (seen : View). Ok
    (after_step n packet stop (packet_step seen now stop.arrival packet.bytes))) (still packet)) is)
