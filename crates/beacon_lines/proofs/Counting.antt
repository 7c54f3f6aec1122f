-- Counts of alike segments and of arrivals in one AS, when one is added.
use Rattle.std.proofs.Common.{◌≡◌, ◌+◌, ◌≤◌, ◌<◌, ℕ, Bool, true, false, cond, eqb, List, [], ◌∷◌, ◌++◌, Contains, count_by, Some, Result, Ok, Err, refl, sym, ap, ◌∙◌, inl, inr, arith}
use Rattle.std.specs.BTreeMap.{BTreeMap, get, is_at as key_at}
use Rattle.std.specs.Option.{unwrap_or}
use Rattle.std.specs.Ordering.{nat_cmp}
use Rattle.std.proofs.lemmas.Bool.{cases_Bool, eqb-true, eqb-false, eq-eqb, ne_eqb}
use Rattle.std.proofs.lemmas.List.Sums.{sum_by-cons, sum_by_push}
use Rattle.scion_topology.proofs.Marking.{is_at-nat_cmp}
use Rattle.path_segment.specs.Chain.{Chain, first_as, last_as}
use Rattle.path_server.specs.declared.fault.StoreFault.{StoreFault}
use Rattle.path_server.specs.Segment.{is_alike}
use Rattle.path_server.specs.Store.{answer_to, with_new, with_registered}
use Rattle.path_server.proofs.Decided.{is_alike-Decides}
use Rattle.beacon_lines.specs.declared.arrivals.Arrival.{Arrival}
use Rattle.beacon_lines.specs.inner.Spreading.{AreCounted, is_at}
use Rattle.beacon_lines.proofs.Leading.{in_head, in_tail}

-- what passes a test counts once
pub yes_counts : (test : Bool) → test ≡ true → cond {A = ℕ} test 1 0 ≡ 1
yes_counts test passed = rw passed refl

pub no_counts : (test : Bool) → test ≡ false → cond {A = ℕ} test 1 0 ≡ 0
no_counts test failed = rw failed refl

-- ---- segments

pub alike : (one other : Chain) → is_alike one other ≡ true
    → (one.kind ≡ other.kind) × ((first_as one ≡ first_as other) × (last_as one ≡ last_as other))
alike one other same = (let parts = (is_alike-Decides one other).0 same in
    (parts.0, (parts.1, parts.2)))

new_count : (answer : Result Bool StoreFault) (segments : List Chain) (segment other : Chain)
    → count_by (is_alike other) (with_new answer segments segment)
    ≤ count_by (is_alike other) segments + cond (is_alike other segment) 1 0
new_count (Ok true) segments segment other =
    (let pushed = sum_by_push (λ (s : Chain). cond (is_alike other s) 1 0) segments segment in omega
    arith)
new_count (Ok false) segments segment other = omega arith
new_count (Err fault) segments segment other = omega arith

pub registered_count : (segments : List Chain) (segment : Chain) (now : ℕ) (other : Chain)
    → count_by (is_alike other) (with_registered segments segment now)
    ≤ count_by (is_alike other) segments + cond (is_alike other segment) 1 0
unfolding with_registered
registered_count segments segment now other = new_count (answer_to segments segment now) segments
    segment other

new_same : (answer : Result Bool StoreFault) (segments : List Chain) (segment other : Chain)
    → is_alike other segment ≡ false
    → count_by (is_alike other) (with_new answer segments segment) ≡ count_by (is_alike other)
    segments
new_same (Ok true) segments segment other unlike =
    sum_by_push (λ (s : Chain). cond (is_alike other s) 1 0) segments segment ∙ rw unlike
    (omega arith)
new_same (Ok false) segments segment other unlike = refl
new_same (Err fault) segments segment other unlike = refl

pub registered_same : (segments : List Chain) (segment : Chain) (now : ℕ) (other : Chain)
    → is_alike other segment ≡ false
    → count_by (is_alike other) (with_registered segments segment now) ≡ count_by (is_alike other)
    segments
unfolding with_registered
registered_same segments segment now other = new_same (answer_to segments segment now) segments
    segment other

-- ---- arrivals

pub arrived_count : (arrivals : List Arrival) (arrival : Arrival) (ia : ℕ)
    → count_by (is_at ia) (arrivals ++ arrival ∷ []) ≡ count_by (is_at ia) arrivals + cond
    (is_at ia arrival) 1 0
arrived_count arrivals arrival ia = sum_by_push (λ (a : Arrival). cond (is_at ia a) 1 0) arrivals
    arrival

pub arrived_here : (arrivals : List Arrival) (arrival : Arrival) (ia : ℕ) → arrival.ia ≡ ia
    → count_by (is_at ia) (arrivals ++ arrival ∷ []) ≡ count_by (is_at ia) arrivals + 1
arrived_here arrivals arrival ia at =
    arrived_count arrivals arrival ia ∙ rw (eq-eqb arrival.ia ia at) refl

-- where some are counted, one is there
pub some_there : (arrivals : List Arrival) (ia : ℕ) → 0 < count_by (is_at ia) arrivals
    → (arrival : Arrival) × (Contains arrivals arrival × (arrival.ia ≡ ia))
some_there [] ia some = absurd (omega arith)
some_there (one ∷ arrivals) ia some = elim (cases_Bool (eqb one.ia ia)) [
  | inl at ↦ (one, (in_head one arrivals, eqb-true one.ia ia at))
  | inr other ↦ (
      let parts : count_by (is_at ia) (one ∷ arrivals) ≡ cond (is_at ia one) 1 0 + count_by
      (is_at ia) arrivals =
      sum_by-cons (λ (a : Arrival). cond (is_at ia a) 1 0) one arrivals in
      let none = no_counts (is_at ia one) other in
      let later = some_there arrivals ia (omega arith) in
      (later.0, (in_tail one arrivals later.0 later.1.0, later.1.1)))
]

-- the numbers of arrivals after one more
pub counted_more : (arrivals : List Arrival) (arrival : Arrival) (count : ℕ)
    (old new : BTreeMap ℕ ℕ)
    → AreCounted arrivals old → count ≡ count_by (is_at arrival.ia) arrivals
    → ((ia : ℕ) → get nat_cmp new ia ≡ cond (key_at (nat_cmp arrival.ia) ia) (Some (count + 1))
    (get nat_cmp old ia))
    → AreCounted (arrivals ++ arrival ∷ []) new
counted_more arrivals arrival count old new counted count_is updates ia =
    let is = updates ia ∙ ap (λ b. cond b (Some (count + 1)) (get nat_cmp old ia))
    (is_at-nat_cmp ia arrival.ia) in
    elim (cases_Bool (eqb ia arrival.ia)) [
      | inl here ↦ (
          let same : ia ≡ arrival.ia = eqb-true ia arrival.ia here in
          let now_is : get nat_cmp new ia ≡ Some (count + 1) = is ∙ ap
          (λ b. cond b (Some (count + 1)) (get nat_cmp old ia)) here in
          let more = arrived_here arrivals arrival ia (sym same) in
          let count_here : count ≡ count_by (is_at ia) arrivals = count_is ∙ ap
          (λ x. count_by (is_at x) arrivals) (sym same) in
          ap (λ o. unwrap_or o 0) now_is ∙ (ap (λ k. k + 1) count_here ∙ sym more))
      | inr other ↦ (
          let now_is : get nat_cmp new ia ≡ get nat_cmp old ia = is ∙ ap
          (λ b. cond b (Some (count + 1)) (get nat_cmp old ia)) other in
          let apart : is_at ia arrival ≡ false = ne_eqb arrival.ia ia
          (λ same. eqb-false ia arrival.ia other (sym same)) in
          let none = no_counts (is_at ia arrival) apart in
          let as_before = arrived_count arrivals arrival ia in
          ap (λ o. unwrap_or o 0) now_is ∙ (counted ia ∙ omega arith))
    ]
