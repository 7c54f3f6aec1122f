-- Indexes of ASes, each at the place of its own AS.
use Rattle.std.proofs.Common.{◌≡◌, ◌≢◌, ℕ, zero, suc, ◌+◌, ◌<◌, Bool, true, false, cond, eqb, List, [], ◌∷◌, ◌++◌, length, Option, Some, None, refl, sym, ap, ◌∙◌, arith, inl, inr, ◌⊎◌, option_map, take, get_or, add-one}
use Rattle.std.specs.Prelude.{is_some, slice_get, slice_set}
use Rattle.std.specs.Option.{option_and_then}
use Rattle.std.proofs.lemmas.Bool.{cases_eq, eq-eqb, ne_eqb}
use Rattle.scion_topology.specs.declared.index.AsIndex.{AsIndex}
use Rattle.scion_topology.specs.declared.network.AsEntry.{AsEntry}
use Rattle.scion_topology.specs.inner.Placed.{AreOwn}
use Rattle.scion_topology.specs.Index.{IndexValue, value_of_index, index_at, index_from}
use Rattle.scion_topology.specs.inner.Index.{with_first_index}

abbrev pub had : List AsIndex → (ℕ → Option ℕ) → ℕ → Option IndexValue
had list place x = option_map value_of_index (option_and_then (slice_get list) (place x))

-- what stands at the place of an AS
pub stands_there : (o : Option AsIndex) (x : ℕ) → option_map (λ index. index.ia) o ≡ Some x → (index : AsIndex) × (o ≡ Some index) × (index.ia ≡ x)
stands_there None x found = absurd cc
stands_there (Some index) x found = (index, refl, cc)

shown : (o : Option AsIndex) (index : AsIndex) (x : ℕ) → o ≡ Some index → index.ia ≡ x → option_map (λ index. index.ia) o ≡ Some x
shown o index x here same = rw (here, same) refl

-- ---- one index is changed

set_here : (xs : List AsIndex) (k : ℕ) (x y : AsIndex) → slice_get xs k ≡ Some x → slice_get (slice_set xs k y) k ≡ Some y
set_here [] k x y found = absurd cc
set_here (first ∷ rest) zero x y found = refl
set_here (first ∷ rest) (suc k) x y found = set_here rest k x y found

set_other : (xs : List AsIndex) (j k : ℕ) (y : AsIndex) → j ≢ k → slice_get (slice_set xs k y) j ≡ slice_get xs j
set_other [] j k y other = refl
set_other (first ∷ rest) zero zero y other = absurd (other refl)
set_other (first ∷ rest) (suc j) zero y other = refl
set_other (first ∷ rest) zero (suc k) y other = refl
set_other (first ∷ rest) (suc j) (suc k) y other = set_other rest j k y (λ e. other (ap suc e))

pub own_changed : (list : List AsIndex) (place : ℕ → Option ℕ) (k : ℕ) (index after : AsIndex) → AreOwn list place → slice_get list k ≡ Some index → after.ia ≡ index.ia → AreOwn (slice_set list k after) place
own_changed list place k index after are here same = record {
  own = λ j other at_j. elim (cases_eq j k) [
    | inl is ↦ (
        let there : slice_get (slice_set list k after) k ≡ Some other = ap (slice_get (slice_set list k after)) (sym is) ∙ at_j in
        let now : slice_get (slice_set list k after) k ≡ Some after = set_here list k index after here in
        let it : other ≡ after = cc in
        rw (it, same, is) (are.own k index here))
    | inr other_place ↦ are.own j other (sym (set_other list j k after other_place) ∙ at_j)
  ];
  found = λ x j placed. (
      let was = stands_there (slice_get list j) x (are.found x j placed) in
      elim (cases_eq j k) [
        | inl is ↦ (
            let there : slice_get list k ≡ Some was.0 = rw (← is) was.1 in
            let it : was.0 ≡ index = cc in
            shown _ after x (rw is (set_here list k index after here)) (same ∙ ap (λ (i : AsIndex). i.ia) (sym it) ∙ was.2))
        | inr other_place ↦ shown _ was.0 x (set_other list j k after other_place ∙ was.1) was.2
      ]);
}

pub value_changed : (f : IndexValue → IndexValue) (list : List AsIndex) (place : ℕ → Option ℕ) (k ia : ℕ) (index after : AsIndex) → AreOwn list place → place ia ≡ Some k → slice_get list k ≡ Some index → value_of_index after ≡ f (value_of_index index)
    → (x : ℕ) → had (slice_set list k after) place x ≡ cond (eqb x ia) (option_map f (had list place x)) (had list place x)
value_changed f list place k ia index after are placed here is x = elim (cases_eq x ia) [
  | inl same ↦ (
      let at_x : place x ≡ Some k = rw same placed in
      let hit = eq-eqb x ia same in
      rw (hit, at_x, set_here list k index after here, here) (ap Some is))
  | inr apart ↦ rw (ne_eqb x ia apart) (go apart (place x) refl)
]
  where
    go : x ≢ ia → (o : Option ℕ) → place x ≡ o → option_map value_of_index (option_and_then (slice_get (slice_set list k after)) o) ≡ option_map value_of_index (option_and_then (slice_get list) o)
    go apart None e = refl
    go apart (Some j) e = ap (option_map value_of_index) (set_other list j k after (λ same. (
        let own = stands_there (slice_get list j) x (are.found x j e) in
        let ours = stands_there (slice_get list k) ia (are.found ia k placed) in
        let both : slice_get list k ≡ Some own.0 = rw (← same) own.1 in
        let it : own.0 ≡ ours.0 = cc in
        apart (sym own.2 ∙ ap (λ (i : AsIndex). i.ia) it ∙ ours.2))))

-- ---- one index more

front_here : (xs ys : List AsIndex) (k : ℕ) (x : AsIndex) → slice_get xs k ≡ Some x → slice_get (xs ++ ys) k ≡ Some x
front_here [] ys k x found = absurd cc
front_here (first ∷ rest) ys zero x found = found
front_here (first ∷ rest) ys (suc k) x found = front_here rest ys k x found

last_here : (xs : List AsIndex) (y : AsIndex) → slice_get (xs ++ y ∷ []) (length xs) ≡ Some y
last_here [] y = refl
last_here (first ∷ rest) y = last_here rest y

here_or_last : (xs : List AsIndex) (y x : AsIndex) (k : ℕ) → slice_get (xs ++ y ∷ []) k ≡ Some x → (slice_get xs k ≡ Some x) ⊎ ((k ≡ length xs) × (x ≡ y))
here_or_last [] y x zero found = inr (refl, cc)
here_or_last [] y x (suc k) found = absurd cc
here_or_last (first ∷ rest) y x zero found = inl found
here_or_last (first ∷ rest) y x (suc k) found = elim (here_or_last rest y x k found) [
  | inl front ↦ inl front
  | inr last ↦ inr (ap suc last.0, last.1)
]

-- the places with one more, that of an AS
abbrev pub HasMore : (ℕ → Option ℕ) → (ℕ → Option ℕ) → ℕ → ℕ → Type 0
HasMore place more ia k = (x : ℕ) → more x ≡ cond (eqb x ia) (Some k) (place x)

pub own_grown : (list : List AsIndex) (place more : ℕ → Option ℕ) (index : AsIndex) → AreOwn list place → place index.ia ≡ None → HasMore place more index.ia (length list) → AreOwn (list ++ index ∷ []) more
own_grown list place more index are none has = record {
  own = λ k other at_k. elim (here_or_last list index other k at_k) [
    | inl front ↦ (
        let was = are.own k other front in
        elim (cases_eq other.ia index.ia) [
          | inl same ↦ absurd (let gone : place other.ia ≡ None = rw same none in cc)
          | inr apart ↦ has other.ia ∙ rw (ne_eqb other.ia index.ia apart) was
        ])
    | inr last ↦ rw (last.1, last.0) (has index.ia ∙ rw (eq-eqb index.ia index.ia refl) refl)
  ];
  found = λ x k placed. elim (cases_eq x index.ia) [
    | inl same ↦ (
        let now : more x ≡ Some (length list) = has x ∙ rw (eq-eqb x index.ia same) refl in
        let at : length list ≡ k = cc in
        shown _ index x (rw (← at) (last_here list index)) (sym same))
    | inr apart ↦ (
        let was = stands_there (slice_get list k) x (are.found x k (sym (has x ∙ rw (ne_eqb x index.ia apart) refl) ∙ placed)) in
        shown _ was.0 x (front_here list (index ∷ []) k was.0 was.1) was.2)
  ];
}

pub value_grown : (list : List AsIndex) (place more : ℕ → Option ℕ) (index : AsIndex) → AreOwn list place → place index.ia ≡ None → HasMore place more index.ia (length list)
    → (x : ℕ) → had (list ++ index ∷ []) more x ≡ with_first_index (eqb index.ia x) (value_of_index index) (had list place x)
value_grown list place more index are none has x = elim (cases_eq x index.ia) [
  | inl same ↦ (
      let now : more x ≡ Some (length list) = has x ∙ rw (eq-eqb x index.ia same) refl in
      let gone : place x ≡ None = rw same none in
      rw (now, gone, last_here list index, eq-eqb index.ia x (sym same)) refl)
  | inr apart ↦ (
      let as_before : more x ≡ place x = has x ∙ rw (ne_eqb x index.ia apart) refl in
      rw (as_before, ne_eqb index.ia x (λ e. apart (sym e))) (go (place x) refl))
]
  where
    go : (o : Option ℕ) → place x ≡ o → option_map value_of_index (option_and_then (slice_get (list ++ index ∷ [])) o) ≡ with_first_index false (value_of_index index) (option_map value_of_index (option_and_then (slice_get list) o))
    go None e = refl
    go (Some k) e =
        let was = stands_there (slice_get list k) x (are.found x k e) in
        rw (was.1, front_here list (index ∷ []) k was.0 was.1) refl

-- an AS that stands twice has the index of its first place
first_stays : (base : ℕ) (front : List AsEntry) (one : AsEntry) (x : ℕ) → index_from base (front ++ one ∷ []) [] x ≡ with_first_index (eqb one.ia x) (index_at (base + length front) x []) (index_from base front [] x)
first_stays base [] one x = let at : base + 0 ≡ base = omega arith in rw at refl
first_stays base (first ∷ front) one x = go (eqb first.ia x) (first_stays (base + 1) front one x)
  where
    after : ℕ → Option IndexValue → Option IndexValue
    after k o = with_first_index (eqb one.ia x) (index_at k x []) o

    go : (here : Bool) → index_from (base + 1) (front ++ one ∷ []) [] x ≡ after (base + 1 + length front) (index_from (base + 1) front [] x)
        → cond here (Some (index_at base x [])) (index_from (base + 1) (front ++ one ∷ []) [] x) ≡ after (base + suc (length front)) (cond here (Some (index_at base x [])) (index_from (base + 1) front [] x))
    go true e = refl
    go false e = let at : base + suc (length front) ≡ base + 1 + length front = omega arith in rw at e

take_next : (ases : List AsEntry) (k : ℕ) (one : AsEntry) → k < length ases → one ≡ get_or ases k one → (take (suc k) ases ≡ take k ases ++ one ∷ []) × (length (take k ases) ≡ k)
take_next [] k one below is = absurd (omega arith)
take_next (first ∷ rest) zero one below is = (ap (λ (v : AsEntry). v ∷ []) (sym is), refl)
take_next (first ∷ rest) (suc k) one below is =
    let later = take_next rest k one (omega arith) is in
    (ap (λ (v : List AsEntry). first ∷ v) later.0, ap suc later.1)

pub first_index : (ases : List AsEntry) (k : ℕ) (one : AsEntry) (x : ℕ) → k < length ases → one ≡ get_or ases k one → index_from 0 (take (k + 1) ases) [] x ≡ with_first_index (eqb one.ia x) (index_at k x []) (index_from 0 (take k ases) [] x)
first_index ases k one x below is =
    let next = take_next ases k one below is in
    let at : 0 + length (take k ases) ≡ k = omega (arith, next.1) in
    ap (λ n. index_from 0 (take n ases) [] x) (add-one k) ∙ ap (λ (v : List AsEntry). index_from 0 v [] x) next.0
    ∙ first_stays 0 (take k ases) one x ∙ ap (λ n. with_first_index (eqb one.ia x) (index_at n x []) (index_from 0 (take k ases) [] x)) at

-- ---- an AS that has its index

as_was : (new : IndexValue) (o : Option IndexValue) → o ≡ with_first_index false new o
as_was new None = refl
as_was new (Some v) = refl

pub none_from : (o : Option ℕ) → is_some o ≡ false → o ≡ None
none_from None e = refl
none_from (Some k) e = absurd cc

pub kept : (list : List AsIndex) (place : ℕ → Option ℕ) (ia : ℕ) (new : IndexValue) → AreOwn list place → is_some (place ia) ≡ true → (x : ℕ) → had list place x ≡ with_first_index (eqb ia x) new (had list place x)
kept list place ia new are some x = elim (cases_eq ia x) [
  | inl same ↦ go (place x) refl (ap (λ y. is_some (place y)) (sym same) ∙ some)
  | inr apart ↦ rw (ne_eqb ia x apart) (as_was new (had list place x))
]
  where
    go : (o : Option ℕ) → place x ≡ o → is_some (place x) ≡ true → option_map value_of_index (option_and_then (slice_get list) o) ≡ with_first_index (eqb ia x) new (option_map value_of_index (option_and_then (slice_get list) o))
    go None e some_there = absurd (let not_some : is_some (place x) ≡ false = rw e refl in cc)
    go (Some k) e some_there =
        let was = stands_there (slice_get list k) x (are.found x k e) in
        rw was.1 refl
