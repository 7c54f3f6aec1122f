-- Lists of arrivals: what stays when one more is added.
use Rattle.std.proofs.Common.{◌≡◌, ◌⊎◌, ◌≤◌, ℕ, zero, suc, List, [], ◌∷◌, ◌++◌, length, Contains, Some, sym, ap, ◌∙◌, subst, inl, inr, arith}
use Rattle.std.specs.Prelude.{slice_get}
use Rattle.std.proofs.lemmas.Option.{get_or_from_slice_get, slice_get_within}
use Rattle.std.proofs.lemmas.List.Elements.{Contains-append_left, Contains-push_cases}
use Rattle.beacon_lines.specs.declared.arrivals.Arrival.{Arrival}
use Rattle.beacon_lines.proofs.Spreads.{AddsAt}

-- an arrival in this AS with at most so many entries
pub record HasOne (arrivals : List Arrival) (ia most : ℕ) : Type 0 where
  pub arrival : Arrival
  pub there : Contains arrivals arrival
  pub at : arrival.ia ≡ ia
  pub few : arrival.entries ≤ most

-- later arrivals have no fewer entries
abbrev pub AreRising : List Arrival → Type 0
AreRising arrivals = (i j : ℕ) (one other : Arrival) → i ≤ j → slice_get arrivals i ≡ Some one
    → slice_get arrivals j ≡ Some other → one.entries ≤ other.entries

abbrev pub AreBelow : ℕ → List Arrival → Type 0
AreBelow most arrivals = (one : Arrival) → Contains arrivals one → one.entries ≤ most

-- at most one arrival more
abbrev pub Adds : (far entries : ℕ) (before after : List Arrival) → Type 0
Adds far entries before after = (after ≡ before) ⊎ AddsAt far entries before after

pub still_in : (far entries : ℕ) (before after : List Arrival) (one : Arrival) → Adds far entries
    before after
    → Contains before one → Contains after one
still_in far entries before after one (inl same) there = subst (λ list. Contains list one)
    (sym same) there
still_in far entries before after one (inr adds) there =
    subst (λ list. Contains list one) (sym adds.is)
    (Contains-append_left before (adds.arrival ∷ []) one there)

pub still_one : (far entries : ℕ) (before after : List Arrival) (ia most : ℕ) → Adds far entries
    before after
    → HasOne before ia most → HasOne after ia most
still_one far entries before after ia most adds one = record {
  arrival = one.arrival;
  there = still_in far entries before after one.arrival adds one.there;
  at = one.at;
  few = one.few;
}

-- an arrival is one of before, or the one that was added
pub was_or_new : (far entries : ℕ) (before after : List Arrival) (one : Arrival) → Adds far entries
    before after
    → Contains after one → Contains before one ⊎ (one.entries ≡ entries)
was_or_new far entries before after one (inl same) there = inl
    (subst (λ list. Contains list one) same there)
was_or_new far entries before after one (inr adds) there =
    elim (Contains-push_cases before adds.arrival one
    (subst (λ list. Contains list one) adds.is there)) [
      | inl earlier ↦ inl earlier
      | inr is ↦ inr (sym (ap (λ (a : Arrival). a.entries) is) ∙ adds.long)
    ]

-- the same by places
at_push : {X : Type 0} (xs : List X) (x : X) (k : ℕ) (y : X) → slice_get (xs ++ x ∷ []) k ≡ Some y
    → (slice_get xs k ≡ Some y) ⊎ ((x ≡ y) × (length xs ≤ k))
at_push [] x zero y at = inr (cc, omega arith)
at_push [] x (suc k) y at = absurd cc
at_push (z ∷ xs) x zero y at = inl at
at_push (z ∷ xs) x (suc k) y at = elim (at_push xs x k y at) [
  | inl earlier ↦ inl earlier
  | inr last ↦ inr (last.0, (let below = last.1 in omega arith))
]

at_before : {X : Type 0} (xs : List X) (x : X) (k : ℕ) (y : X) → slice_get xs k ≡ Some y
    → slice_get (xs ++ x ∷ []) k ≡ Some y
at_before [] x k y at = absurd cc
at_before (z ∷ xs) x zero y at = at
at_before (z ∷ xs) x (suc k) y at = at_before xs x k y at

pub same_place : (far entries : ℕ) (before after : List Arrival) (k : ℕ) (one : Arrival)
    → Adds far entries before after → slice_get before k ≡ Some one → slice_get after k ≡ Some one
same_place far entries before after k one (inl same) at = ap (λ list. slice_get list k) same ∙ at
same_place far entries before after k one (inr adds) at =
    ap (λ list. slice_get list k) adds.is ∙ at_before before adds.arrival k one at

pub place_was : (far entries : ℕ) (before after : List Arrival) (k : ℕ) (one : Arrival)
    → Adds far entries before after → slice_get after k ≡ Some one
    → (slice_get before k ≡ Some one) ⊎ ((one.entries ≡ entries) × (length before ≤ k))
place_was far entries before after k one (inl same) at = inl
    (sym (ap (λ list. slice_get list k) same) ∙ at)
place_was far entries before after k one (inr adds) at =
    elim (at_push before adds.arrival k one (sym (ap (λ list. slice_get list k) adds.is) ∙ at)) [
      | inl earlier ↦ inl earlier
      | inr last ↦ inr (sym (ap (λ (a : Arrival). a.entries) last.0) ∙ adds.long, last.1)
    ]

pub in_place : {X : Type 0} (xs : List X) (k : ℕ) (x : X) → slice_get xs k ≡ Some x → Contains xs x
in_place xs k x at = (k, slice_get_within xs k x at, get_or_from_slice_get xs k x x at)

pub rising_still : (far entries : ℕ) (before after : List Arrival) → Adds far entries before after
    → AreRising before → AreBelow entries before → AreRising after
rising_still far entries before after adds rising below i j one other order at_i at_j =
    elim (place_was far entries before after j other adds at_j) [
      | inl was_j ↦ elim (place_was far entries before after i one adds at_i) [
        | inl was_i ↦ rising i j one other order was_i was_j
        | inr new_i ↦ absurd (let past = new_i.1 in let within = slice_get_within before j other
            was_j in omega arith)
      ]
      | inr new_j ↦ elim (place_was far entries before after i one adds at_i) [
        | inl was_i ↦ (let few = below one (in_place before i one was_i) in let long = new_j.0 in
            omega arith)
        | inr new_i ↦ (let long_i = new_i.0 in let long_j = new_j.0 in omega arith)
      ]
    ]
