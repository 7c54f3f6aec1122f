-- What is so of each packet stays so, whatever happens.
use Rattle.std.proofs.Common.{◌≡◌, ℕ, zero, suc, ◌⊎◌, Bool, List, [], ◌∷◌, set, Some, Ok, refl, sym, ap, ◌∙◌, subst, inl, inr}
use Rattle.std.specs.Prelude.{slice_get}
use Rattle.refusal.proofs.Steps.{ok_or_ok}
use Rattle.scion_topology.specs.Network.{Network}
use Rattle.scion_topology.specs.Topology.{owner_in, set_up, with_rotated_key}
use Rattle.path_verifier.specs.Walk.{walk_of}
use Rattle.forwarding.specs.declared.location.RouterStop.{RouterStop}
use Rattle.forwarding.specs.declared.location.PacketLocation.{PacketLocation}
use Rattle.forwarding.specs.declared.location.PacketLocation.TheVariants as places
use Rattle.forwarding.specs.Journey.{first_out}
use Rattle.forwarding.specs.Turn.{Packet, turn_of, lost_packet, altered_packet}
use Rattle.network_core.specs.declared.fault.EventFault.TheVariants as faults
use Rattle.network_core.specs.declared.reply.Reply.{Reply}
use Rattle.network_core.specs.Event.{EventValue}
use Rattle.network_core.specs.Value.{Shipment, PacketValue, NetValue}
use Rattle.network_core.specs.Step.{is_in_flight, packet_at, flying_at, packet_of, Step}
use Rattle.network_core.proofs.Effects.{both_done, IsMove, Moves, Renews, effect}
use Rattle.network_core.proofs.Issuing.{last_or}

-- a place of a list with one element changed has that element, or what it had
set_or : {A : Type 0} (xs : List A) (k i : ℕ) (y x : A) → slice_get (set xs k y) i ≡ Some x
    → (slice_get xs i ≡ Some x) ⊎ (y ≡ x)
set_or [] k i y x there = absurd cc
set_or (z ∷ xs) zero zero y x there = inr cc
set_or (z ∷ xs) zero (suc i) y x there = inl there
set_or (z ∷ xs) (suc k) zero y x there = inl there
set_or (z ∷ xs) (suc k) (suc i) y x there = set_or xs k i y x there

-- a packet in flight is there, and at a router
stop_of : (place : PacketLocation) (done : Unit {0}) → is_in_flight place ≡ Ok done
    → (stop : RouterStop) × (place ≡ places.AtRouter stop)
stop_of (places.AtRouter stop) done is = (stop, refl)
stop_of places.Delivered done is = absurd cc
stop_of (places.Refused ia router refusal) done is = absurd cc
stop_of places.Lost done is = absurd cc

pub flying_there : (net : NetValue) (q : ℕ) (one : PacketValue) → flying_at net q ≡ Ok one
    → (slice_get net.packets q ≡ Some one) × ((stop : RouterStop) × (one.packet.place ≡ places.AtRouter stop))
flying_there net q one is =
    let first = both_done (packet_at net q) _ one is in
    let then = both_done (is_in_flight first.0.packet.place) _ one first.1.1 in
    let same : first.0 ≡ one = (let last = then.1.1 in cc) in
    subst (λ (p : PacketValue). (slice_get net.packets q ≡ Some p) × ((stop : RouterStop) × (p.packet.place ≡ places.AtRouter stop))) same
    (ok_or_ok (slice_get net.packets q) faults.NoPacket first.0 first.1.0, stop_of first.0.packet.place then.0 then.1.0)

-- ---- what outlasts each change of a packet and of the topology, in networks that are sane

pub record Outlasts (IsSane : Network → Type 0) (P : Network → PacketValue → Type 0) : Type 0 where
  pub departed : (n : Network) (sent : Shipment) (router : ℕ) → IsSane n
      → owner_in n sent.way.source (first_out (walk_of sent.way.pieces)) ≡ Ok router
      → P n (packet_of sent router)
  pub turned : (n : Network) (now : ℕ) (one : PacketValue) (stop : RouterStop) → IsSane n
      → one.packet.place ≡ places.AtRouter stop → P n one
      → P n (record one { packet = (turn_of n now one.packet).1 })
  pub lost : (n : Network) (one : PacketValue) → P n one → P n (record one { packet = lost_packet one.packet })
  pub altered : (n : Network) (one : PacketValue) (at change : ℕ) → P n one
      → P n (record one { packet = altered_packet one.packet at change })
  pub linked : (n m : Network) (up : Bool) (ia number : ℕ) (one : PacketValue)
      → set_up up ia number n ≡ Ok m → P n one → P m one
  pub keyed : (n m : Network) (ia : ℕ) (key : List ℕ) (one : PacketValue)
      → with_rotated_key ia key n ≡ Ok m → P n one → P m one

abbrev pub AllHold : (Network → PacketValue → Type 0) → NetValue → Type 0
AllHold P net =
    (i : ℕ) (one : PacketValue) → slice_get net.packets i ≡ Some one → P net.network one

module _ (IsSane : Network → Type 0) (P : Network → PacketValue → Type 0) (rules : Outlasts IsSane P)
    (old new : NetValue) (sane : IsSane old.network) (held : AllHold P old) where
  moved : (event : EventValue) (m : IsMove old event new) → P old.network (record m.one { packet = m.packet })
  moved event m =
      let there = flying_there old m.number m.one m.flying in
      let holds = held m.number m.one there.0 in
      let Q = λ (packet : Packet). P old.network (record m.one { packet = packet }) in
      elim m.how [
        | inl turn ↦ subst Q (sym turn.1) (rules.turned old.network old.moment m.one there.1.0 sane there.1.1 holds)
        | inr some ↦ elim some [
          | inl loss ↦ subst Q (sym loss.1) (rules.lost old.network m.one holds)
          | inr a ↦ subst Q (sym a.is) (rules.altered old.network m.one a.at a.change holds)
        ]
      ]

  -- each packet after the event, in the topology before it
  before : (event : EventValue) → Moves old event new → (i : ℕ) (one : PacketValue)
      → slice_get new.packets i ≡ Some one → P old.network one
  before event (inl same) i one there = held i one (ap (λ ps. slice_get ps i) (sym same) ∙ there)
  before event (inr (inl d)) i one there =
      elim (last_or old.packets (packet_of d.sent d.router) i one (ap (λ ps. slice_get ps i) (sym d.packets) ∙ there)) [
        | inl was ↦ held i one was
        | inr last ↦ subst (P old.network) last.1 (rules.departed old.network d.sent d.router sane d.owned)
      ]
  before event (inr (inr m)) i one there =
      elim (set_or old.packets m.number i (record m.one { packet = m.packet }) one (ap (λ ps. slice_get ps i) (sym m.packets) ∙ there)) [
        | inl was ↦ held i one was
        | inr same ↦ subst (P old.network) same (moved event m)
      ]

  -- and in the topology after it
  after : (event : EventValue) (reply : Reply) → Renews old event reply new → (one : PacketValue)
      → P old.network one → P new.network one
  after event reply (inl same) one holds = subst (λ n. P n one) (sym same) holds
  after event reply (inr (inl s)) one holds =
      rules.linked old.network new.network s.up s.ia s.number one s.change holds
  after event reply (inr (inr k)) one holds =
      rules.keyed old.network new.network k.ia k.key one k.change holds

  pub holds_on : (event : EventValue) (reply : Reply) → Step old event reply new → AllHold P new
  holds_on event reply is i one there =
      let e = effect old new event reply is in
      after event reply e.network one (before event e.packets i one there)
