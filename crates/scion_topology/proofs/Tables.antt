-- The places of interfaces in a table, which grows and is marked.
use Rattle.std.proofs.Common.{◌≡◌, ◌≢◌, ℕ, suc, ◌+◌, ◌<◌, ◌≤◌, Bool, true, false, cond, eqb, ltb, List, [], ◌∷◌, ◌++◌, length, Option, Some, None, refl, sym, ap, ◌∙◌, arith, ◌⊎◌, inl, inr, option_map}
use Rattle.std.specs.Prelude.{is_some, find, position, slice_get, slice_set}
use Rattle.std.specs.List.{position_or_len}
use Rattle.std.specs.Option.{option_and_then}
use Rattle.std.proofs.lemmas.Bool.{cases_Bool, cases_eq, cases_lt, lt-ltb, le-ltb, eq-eqb, ne_eqb}
use Rattle.std.proofs.lemmas.Option.{slice_get_cases}
use Rattle.scion_topology.specs.declared.entry.IfEntry.{IfEntry}
use Rattle.scion_topology.specs.Network.{interface_in}
use Rattle.scion_topology.specs.inner.Table.{place_in_table, marked_table}
use Rattle.scion_topology.specs.inner.Index.{place_beside}

-- the first place in a list, one element at a time
shifted : (n len : ℕ) → cond (ltb (1 + n) (suc len)) (Some (1 + n)) None ≡ option_map (λ (k : ℕ). 1 + k) (cond (ltb n len) (Some n) None)
shifted n len = elim (cases_lt n len) [
  | inl below ↦ (let next : 1 + n < suc len = omega arith in rw (lt-ltb n len below, lt-ltb (1 + n) (suc len) next) refl)
  | inr past ↦ (let next : suc len ≤ 1 + n = omega arith in rw (le-ltb n len past, le-ltb (1 + n) (suc len) next) refl)
]

pub position-cons : {A : Type 0} (p : A → Bool) (x : A) (xs : List A) → position p (x ∷ xs) ≡ cond (p x) (Some 0) (option_map (λ k. 1 + k) (position p xs))
position-cons p x xs = elim (cases_Bool (p x)) [
  | inl here ↦ (let some : 0 < suc (length xs) = omega arith in rw (here, lt-ltb 0 (suc (length xs)) some) refl)
  | inr other ↦ rw other (shifted (position_or_len p xs) (length xs))
]

pub place_zero : (o : Option ℕ) (k : ℕ) → cond true (Some 0) o ≡ Some k → 0 ≡ k
place_zero o k e = cc

pub place_suc : (o : Option ℕ) (k : ℕ) → cond false (Some 0) (option_map (λ (i : ℕ). 1 + i) o) ≡ Some k → (i : ℕ) × (o ≡ Some i) × (1 + i ≡ k)
place_suc None k e = absurd cc
place_suc (Some i) k e = (i, refl, cc)

-- ---- a table with one interface more

-- the first place, or else that of what comes next
abbrev first_or : Option ℕ → Option ℕ → Option ℕ
first_or (Some k) next = Some k
first_or None next = next

next_place : (here : Bool) (o next : Option ℕ) → cond here (Some 0) (option_map (λ (k : ℕ). 1 + k) (first_or o next)) ≡ first_or (cond here (Some 0) (option_map (λ (k : ℕ). 1 + k) o)) (option_map (λ (k : ℕ). 1 + k) next)
next_place true o next = refl
next_place false None next = refl
next_place false (Some k) next = refl

at_end : (here : Bool) (n : ℕ) → option_map (λ (k : ℕ). 1 + k) (cond here (Some n) None) ≡ cond here (Some (suc n)) None
at_end true n = ap Some (omega arith)
at_end false n = refl

position-last : {A : Type 0} (p : A → Bool) (x : A) (xs : List A) → position p (xs ++ x ∷ []) ≡ first_or (position p xs) (cond (p x) (Some (length xs)) None)
position-last p x [] = position-cons p x []
position-last p x (y ∷ ys) =
    position-cons p y (ys ++ x ∷ []) ∙ ap (λ o. cond (p y) (Some 0) (option_map (λ k. 1 + k) o)) (position-last p x ys)
    ∙ next_place (p y) (position p ys) (cond (p x) (Some (length ys)) None)
    ∙ ap (first_or (cond (p y) (Some 0) (option_map (λ k. 1 + k) (position p ys)))) (at_end (p x) (length ys))
    ∙ ap (λ o. first_or o (cond (p x) (Some (suc (length ys))) None)) (sym (position-cons p y ys))

-- what is found of a table, by a number
abbrev Finds : (ℕ → Option ℕ) → List IfEntry → Type 0
Finds place table = (number : ℕ) → place number ≡ place_in_table table number

behind : (o : Option ℕ) → first_or o None ≡ o
behind None = refl
behind (Some k) = refl

-- an interface whose number is there already is not found
pub same_number : (place : ℕ → Option ℕ) (table : List IfEntry) (entry : IfEntry) → Finds place table → is_some (place entry.number) ≡ true → Finds place (table ++ entry ∷ [])
same_number place table entry finds there number =
    sym (position-last (λ other. eqb other.number number) entry table ∙ rw (← finds number) (go (cases_eq entry.number number)))
  where
    stays : (o : Option ℕ) (next : Option ℕ) → is_some o ≡ true → first_or o next ≡ o
    stays None next some = absurd cc
    stays (Some k) next some = refl

    go : (entry.number ≡ number) ⊎ (entry.number ≢ number) → first_or (place number) (cond (eqb entry.number number) (Some (length table)) None) ≡ place number
    go (inl same) = stays (place number) _ (ap (λ n. is_some (place n)) (sym same) ∙ there)
    go (inr apart) = rw (ne_eqb entry.number number apart) (behind (place number))

-- an interface with a new number is found behind the others
pub new_number : (place more : ℕ → Option ℕ) (table : List IfEntry) (entry : IfEntry) → Finds place table → place entry.number ≡ None → ((number : ℕ) → more number ≡ cond (eqb number entry.number) (Some (length table)) (place number)) → Finds more (table ++ entry ∷ [])
new_number place more table entry finds none has number =
    has number ∙ sym (position-last (λ other. eqb other.number number) entry table ∙ rw (← finds number) (go (cases_eq entry.number number)))
  where
    go : (entry.number ≡ number) ⊎ (entry.number ≢ number) → first_or (place number) (cond (eqb entry.number number) (Some (length table)) None) ≡ cond (eqb number entry.number) (Some (length table)) (place number)
    go (inl same) =
        let gone : place number ≡ None = ap place (sym same) ∙ none in
        rw (gone, eq-eqb entry.number number same, eq-eqb number entry.number (sym same)) refl
    go (inr apart) = rw (ne_eqb entry.number number apart, ne_eqb number entry.number (λ e. apart (sym e))) (behind (place number))

-- ---- what stands at a place

-- the first one stands at the first place
pub find-position : {A : Type 0} (p : A → Bool) (xs : List A) → find p xs ≡ option_and_then (slice_get xs) (position p xs)
find-position p [] = refl
find-position p (x ∷ xs) = elim (cases_Bool (p x)) [
  | inl here ↦ rw (position-cons p x xs, here) refl
  | inr other ↦ rw (position-cons p x xs, other) (find-position p xs ∙ go (position p xs))
]
  where
    go : (o : Option ℕ) → option_and_then (slice_get xs) o ≡ option_and_then (slice_get (x ∷ xs)) (option_map (λ (k : ℕ). 1 + k) o)
    go None = refl
    go (Some k) = let next : 1 + k ≡ suc k = omega arith in rw next refl

pub interface_at_place : (table : List IfEntry) (number : ℕ) → interface_in table number ≡ option_and_then (slice_get table) (place_in_table table number)
interface_at_place table number = find-position (λ entry. eqb entry.number number) table

-- a place that is found is within
pub placed_within : (table : List IfEntry) (number k : ℕ) → place_in_table table number ≡ Some k → k < length table
placed_within table number k found = elim (cases_lt (position_or_len (λ entry. eqb entry.number number) table) (length table)) [
  | inl below ↦ (
      let at : position_or_len (λ entry. eqb entry.number number) table ≡ k = (let f : cond true (Some (position_or_len (λ entry. eqb entry.number number) table)) None ≡ Some k = rw (lt-ltb _ _ below) at found in cc) in
      rw (← at) below)
  | inr past ↦ absurd (let f : cond false (Some (position_or_len (λ entry. eqb entry.number number) table)) None ≡ Some k = rw (le-ltb _ _ past) at found in cc)
]

-- the first interface and the place beside it, or what comes after
pub place_beside-cons : (number : ℕ) (entry : IfEntry) (table : List IfEntry) (place : ℕ) (places : List ℕ) → place_beside number (entry ∷ table) (place ∷ places) ≡ cond (eqb entry.number number) (Some place) (place_beside number table places)
place_beside-cons number entry table place places = elim (cases_Bool (eqb entry.number number)) [
  | inl here ↦ rw (position-cons (λ (e : IfEntry). eqb e.number number) entry table, here) refl
  | inr other ↦ rw (position-cons (λ (e : IfEntry). eqb e.number number) entry table, other) (go (place_in_table table number))
]
  where
    go : (o : Option ℕ) → option_and_then (slice_get (place ∷ places)) (option_map (λ (k : ℕ). 1 + k) o) ≡ option_and_then (slice_get places) o
    go None = refl
    go (Some k) = let next : 1 + k ≡ suc k = omega arith in rw next refl

-- ---- an interface that goes up or down

-- a mark leaves each interface its number
pub place-marked : (number : ℕ) (up : Bool) (table : List IfEntry) (other : ℕ) → place_in_table (marked_table number up table) other ≡ place_in_table table other
place-marked number up [] other = refl
place-marked number up (entry ∷ table) other = elim (cases_Bool (eqb entry.number number)) [
  | inl here ↦ rw (here, position-cons (λ (e : IfEntry). eqb e.number other) (record entry { up = up }) table) refl
  | inr apart ↦ rw (apart, position-cons (λ (e : IfEntry). eqb e.number other) entry (marked_table number up table), position-cons (λ (e : IfEntry). eqb e.number other) entry table, place-marked number up table other) refl
]

none_first : (o : Option ℕ) → cond true (Some 0) o ≡ None → ⊥
none_first o e = absurd cc

none_left : (o : Option ℕ) → cond false (Some 0) (option_map (λ (k : ℕ). 1 + k) o) ≡ None → o ≡ None
none_left None e = refl
none_left (Some k) e = absurd cc

-- where there is no such interface, nothing is marked
pub marked-none : (number : ℕ) (up : Bool) (table : List IfEntry) → place_in_table table number ≡ None → marked_table number up table ≡ table
marked-none number up [] none = refl
marked-none number up (entry ∷ table) none =
    let split = sym (position-cons (λ (e : IfEntry). eqb e.number number) entry table) ∙ none in
    elim (cases_Bool (eqb entry.number number)) [
      | inl here ↦ absurd (none_first (option_map (λ (k : ℕ). 1 + k) (place_in_table table number)) (rw here at split))
      | inr other ↦ rw other (ap (λ (t : List IfEntry). entry ∷ t) (marked-none number up table (none_left (place_in_table table number) (rw other at split))))
    ]

front : (first : IfEntry) (table : List IfEntry) (entry : IfEntry) → slice_get (first ∷ table) 0 ≡ Some entry → first ≡ entry
front first table entry is = cc

-- the interface at the place that is found is the one that is marked
marked-some : (number : ℕ) (up : Bool) (table : List IfEntry) (k : ℕ) (entry : IfEntry) → place_in_table table number ≡ Some k → slice_get table k ≡ Some entry → slice_set table k (record entry { up = up }) ≡ marked_table number up table
marked-some number up [] k entry found is = absurd cc
marked-some number up (first ∷ table) k entry found is =
    let split = sym (position-cons (λ (e : IfEntry). eqb e.number number) first table) ∙ found in
    elim (cases_Bool (eqb first.number number)) [
      | inl here ↦ (
          let at : 0 ≡ k = place_zero (option_map (λ (i : ℕ). 1 + i) (place_in_table table number)) k (rw here at split) in
          let same : first ≡ entry = front first table entry (rw (← at) at is) in
          rw (here, ← at, same) refl)
      | inr other ↦ (
          let later = place_suc (place_in_table table number) k (rw other at split) in
          let next : suc later.0 ≡ k = omega (arith, later.2) in
          rw (other, ← next) (ap (λ (t : List IfEntry). first ∷ t) (marked-some number up table later.0 entry later.1 (rw (← next) at is))))
    ]

-- the same, for whoever sets what stands there
pub marked_at_place : (number : ℕ) (up : Bool) (table after : List IfEntry) (k : ℕ) → place_in_table table number ≡ Some k → ((entry : IfEntry) → slice_get table k ≡ Some entry → after ≡ slice_set table k (record entry { up = up })) → after ≡ marked_table number up table
marked_at_place number up table after k found set = elim (slice_get_cases table k).1 [
  | inl inside ↦ set inside.0 inside.2 ∙ marked-some number up table k inside.0 found inside.2
  | inr past ↦ absurd (let below = placed_within table number k found in let beyond : length table ≤ k = past.0 in omega arith)
]
