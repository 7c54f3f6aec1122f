-- A history by the numbers of its events: what each event keeps is kept between two numbers.
use Rattle.std.proofs.Common.{◌≡◌, ℕ, zero, suc, ◌+◌, ◌-◌, ◌≤◌, ◌⊎◌, List, [], ◌∷◌, Some, refl, sym, ap, ◌∙◌, subst, arith, inl, inr}
use Rattle.std.specs.Prelude.{slice_get}
use Rattle.std.proofs.lemmas.Option.{same_Some}
use Rattle.scion_topology.specs.Topology.{IsNetwork}
use Rattle.scion_topology.proofs.Lasting.{linked_network, rotated_network}
use Rattle.path_segment.specs.Chain.{Chain}
use Rattle.beaconing.specs.Issued.{IsUnderWay}
use Rattle.beaconing.proofs.Outlasting.{beacon_linked, beacon_keyed}
use Rattle.network_core.specs.declared.reply.Reply.{Reply}
use Rattle.network_core.specs.Event.{EventValue}
use Rattle.network_core.specs.Value.{NetValue}
use Rattle.network_core.specs.Step.{Step}
use Rattle.network_core.specs.History.{EventRecord, IsHistory, net_at}
use Rattle.network_core.proofs.Effects.{effect}

-- ---- the event of a number

step_at : (start : NetValue) (history : List EventRecord) (k : ℕ) (m : EventRecord) → IsHistory start history
    → slice_get history k ≡ Some m
    → Step (net_at start history k) m.event m.reply m.net × (m.net ≡ net_at start history (k + 1))
step_at start [] k m is there = absurd cc
step_at start (x ∷ history) zero m is there =
    let same = same_Some x m there in
    (subst (λ (y : EventRecord). Step start y.event y.reply y.net) same is.0, ap (λ (y : EventRecord). y.net) (sym same))
step_at start (x ∷ history) (suc k) m is there =
    let rest = step_at x.net history k m is.1 there in
    let place : suc (k + 1) ≡ suc k + 1 = omega arith in
    (rest.0, rest.1 ∙ ap (net_at start (x ∷ history)) place)

-- the network that the event leaves is the one that the next number finds
abbrev pub StepAt : NetValue → List EventRecord → ℕ → EventRecord → Type 0
StepAt start history k m =
    Step (net_at start history k) m.event m.reply (net_at start history (k + 1))

pub becomes_at : (start : NetValue) (history : List EventRecord) (k : ℕ) (m : EventRecord)
    → IsHistory start history → slice_get history k ≡ Some m → StepAt start history k m
becomes_at start history k m is there =
    let s = step_at start history k m is there in
    subst (λ net. Step (net_at start history k) m.event m.reply net) s.1 s.0

-- and the event leaves that network
pub left_at : (start : NetValue) (history : List EventRecord) (k : ℕ) (m : EventRecord)
    → IsHistory start history → slice_get history k ≡ Some m → m.net ≡ net_at start history (k + 1)
left_at start history k m is there = (step_at start history k m is there).1

-- a number has an event, or it is behind the last one
pub event_or_none : (start : NetValue) (history : List EventRecord) (k : ℕ)
    → ((m : EventRecord) × (slice_get history k ≡ Some m)) ⊎ (net_at start history (k + 1) ≡ net_at start history k)
event_or_none start [] k = inr (none_left start (k + 1) ∙ sym (none_left start k))
  where
    none_left : (start : NetValue) (j : ℕ) → net_at start [] j ≡ start
    none_left start zero = refl
    none_left start (suc j) = refl
event_or_none start (x ∷ history) zero = inl (x, refl)
event_or_none start (x ∷ history) (suc k) = elim (event_or_none x.net history k) [
  | inl some ↦ inl some
  | inr none ↦ (
      let place : suc k + 1 ≡ suc (k + 1) = omega arith in
      inr (ap (net_at start (x ∷ history)) place ∙ none))
]

-- ---- what is kept

-- what each event from a number on keeps is kept from that number on
abbrev pub Keeps : NetValue → List EventRecord → (NetValue → Type 0) → ℕ → Type 0
Keeps start history P i = (k : ℕ) (m : EventRecord) → i ≤ k → slice_get history k ≡ Some m
    → StepAt start history k m → P (net_at start history k) → P (net_at start history (k + 1))

kept_on : (start : NetValue) (history : List EventRecord) (P : NetValue → Type 0) (i d : ℕ)
    → IsHistory start history → Keeps start history P i
    → P (net_at start history i) → P (net_at start history (i + d))
kept_on start history P i zero is each at =
    let same : i ≡ i + 0 = omega arith in subst (λ k. P (net_at start history k)) same at
kept_on start history P i (suc d) is each at =
    let before = kept_on start history P i d is each at in
    let place : i + d + 1 ≡ i + suc d = omega arith in
    let low : i ≤ i + d = omega arith in
    subst (λ k. P (net_at start history k)) place (elim (event_or_none start history (i + d)) [
      | inl some ↦ each (i + d) some.0 low some.1 (becomes_at start history (i + d) some.0 is some.1) before
      | inr none ↦ subst P (sym none) before
    ])

pub kept_to : (start : NetValue) (history : List EventRecord) (P : NetValue → Type 0) (i j : ℕ) → i ≤ j
    → IsHistory start history → Keeps start history P i
    → P (net_at start history i) → P (net_at start history j)
kept_to start history P i j order is each at =
    let sum : i + (j - i) ≡ j = omega arith in
    subst (λ k. P (net_at start history k)) sum (kept_on start history P i (j - i) is each at)

-- ---- networks and beacons

pub network_on : (old new : NetValue) (event : EventValue) (reply : Reply) → Step old event reply new
    → IsNetwork old.network → IsNetwork new.network
network_on old new event reply is network = elim (effect old new event reply is).network [
  | inl same ↦ subst IsNetwork (sym same) network
  | inr some ↦ elim some [
    | inl s ↦ linked_network s.up s.ia s.number old.network new.network network s.change
    | inr k ↦ rotated_network k.ia k.key old.network new.network network k.change
  ]
]

-- a network stays one
pub network_at : (start : NetValue) (history : List EventRecord) (k : ℕ) → IsHistory start history
    → IsNetwork start.network → IsNetwork (net_at start history k).network
network_at start history k is network =
    kept_to start history (λ net. IsNetwork net.network) 0 k (omega arith) is
    (λ j m low there step before. network_on (net_at start history j) (net_at start history (j + 1)) m.event m.reply step before)
    network

-- a beacon under way stays so
pub under_on : (old new : NetValue) (event : EventValue) (reply : Reply) (keys : List (List ℕ))
    (chain : Chain) → Step old event reply new
    → IsUnderWay old.network keys chain → IsUnderWay new.network keys chain
under_on old new event reply keys chain is under = elim (effect old new event reply is).network [
  | inl same ↦ subst (λ n. IsUnderWay n keys chain) (sym same) under
  | inr some ↦ elim some [
    | inl s ↦ beacon_linked old.network new.network s.up s.ia s.number keys chain s.change under
    | inr k ↦ beacon_keyed old.network new.network k.ia k.key keys chain k.change under
  ]
]
