-- Each packet at a router is at one that the topology has, so each turn is done.
use Rattle.std.proofs.Common.{◌≡◌, ℕ, ◌+◌, List, Ok, Err, IsOk, refl, sym, ◌∙◌, subst, arith}
use Rattle.scion_topology.specs.Network.{Network}
use Rattle.scion_topology.specs.Topology.{IsNetwork, view_in}
use Rattle.path_verifier.specs.Walk.{walk_of}
use Rattle.forwarding.specs.declared.location.RouterStop.{RouterStop}
use Rattle.router_step.specs.declared.arrival.Arrival.TheVariants.{FromHost}
use Rattle.forwarding.specs.declared.reply.TurnReply.TheVariants.{Still}
use Rattle.forwarding.specs.Journey.{first_out}
use Rattle.forwarding.specs.Turn.{turn_of}
use Rattle.forwarding.proofs.Bounded.{owners_are_there}
use Rattle.forwarding.proofs.Present.{IsPresent, turn_is_done, turn_stays_present, router_linked, router_keyed}
use Rattle.network_core.specs.declared.reply.Reply.TheVariants as replies
use Rattle.network_core.specs.Event.{Turn}
use Rattle.network_core.specs.Value.{PacketValue, NetValue, new_net}
use Rattle.network_core.specs.Step.{Made, turns, flying_at, Leads}
use Rattle.network_core.specs.History.{EventRecord, IsHistory, net_at, Occurs}
use Rattle.network_core.proofs.Effects.{both_done}
use Rattle.network_core.proofs.Numbers.{becomes_at, kept_to, network_on}
use Rattle.network_core.proofs.EachPacket.{Outlasts, AllHold, flying_there, holds_on}

abbrev Stands : Network → PacketValue → Type 0
Stands n one = IsPresent n one.packet

lasting : Outlasts IsNetwork Stands
lasting = record {
  departed = λ n sent router network owned stop at. (
      let here : RouterStop = record { ia = sent.way.source; router = router; arrival = FromHost; came_in_by = 0 } in
      let same : here ≡ stop = cc in
      subst (λ (s : RouterStop). IsOk (view_in n s.ia s.router)) same
      (owners_are_there n sent.way.source (first_out (walk_of sent.way.pieces)) router network owned));
  turned = λ n now one stop network at present.
      turn_stays_present n now one.packet stop network at (present stop at);
  lost = λ n one present stop at. absurd cc;
  altered = λ n one at change present. present;
  linked = λ n m up ia number one change present stop at.
      router_linked up ia number n m stop.ia stop.router change (present stop at);
  keyed = λ n m ia key one change present stop at.
      router_keyed ia key n m stop.ia stop.router change (present stop at);
}

none_yet : (network : Network) → AllHold Stands (new_net network)
none_yet network i one there = absurd cc

-- after each number of events
all_stand : (network : Network) (history : List EventRecord) (k : ℕ) → IsNetwork network
    → IsHistory (new_net network) history
    → IsNetwork (net_at (new_net network) history k).network
    × AllHold Stands (net_at (new_net network) history k)
all_stand network history k known is =
    let start = new_net network in
    kept_to start history (λ net. IsNetwork net.network × AllHold Stands net) 0 k (omega arith) is
    (λ j m low there step before. (
      network_on (net_at start history j) (net_at start history (j + 1)) m.event m.reply step before.0,
      holds_on IsNetwork Stands lasting (net_at start history j) (net_at start history (j + 1))
          before.0 before.1 m.event m.reply step,
    )) (known, none_yet network)

turned_still : (old new : NetValue) (p : ℕ) (made : Made) → AllHold Stands old
    → turns old p ≡ made → Leads made old (replies.Turned Still) new → ⊥
turned_still old new p (Ok made) present is leads =
    let one = both_done (flying_at old p) _ made is in
    let there = flying_there old p one.0 one.1.0 in
    let reply : made.0 ≡ replies.Turned Still = sym leads.0 in
    let told : replies.Turned (turn_of old.network old.moment one.0.packet).0 ≡ made.0 = (let last = one.1.1 in cc) in
    let still : (turn_of old.network old.moment one.0.packet).0 ≡ Still = (let both = told ∙ reply in cc) in
    turn_is_done old.network old.moment one.0.packet there.1.0 there.1.1
    (present p one.0 there.0 there.1.0 there.1.1) still
turned_still old new p (Err fault) present is leads = absurd (let reply = leads.0 in cc)

pub no_turn_is_still : (network : Network) (history : List EventRecord) (k p : ℕ) → IsNetwork network
    → IsHistory (new_net network) history → Occurs history k (Turn p) (replies.Turned Still) → ⊥
no_turn_is_still network history k p known is occurs =
    let start = new_net network in
    let m : EventRecord = record { event = Turn p; reply = replies.Turned Still; net = occurs.net } in
    turned_still (net_at start history k) (net_at start history (k + 1)) p _
    (all_stand network history k known is).1 refl (becomes_at start history k m is occurs.there)
