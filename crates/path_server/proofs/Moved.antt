-- What a sweep leaves of an index is the index of the segments that it leaves.
use Rattle.std.proofs.Common.{◌≡◌, ℕ, zero, suc, ◌+◌, ◌^◌, ◌<◌, ◌≤◌, Bool, true, false, if◌then◌else◌, Option, Some, None, List, [], ◌∷◌, length, get_or, take, filter, count_by, All, refl, ap, sym, ◌∙◌, ◌⊎◌, inl, inr, arith}
use Rattle.std.specs.Prelude.{slice_get}
use Rattle.std.specs.Option.{option_map_or}
use Rattle.std.specs.List.{filter_map, range_with_len}
use Rattle.std.specs.List.Sorted.{IsNonDecreasingBy}
use Rattle.std.proofs.lemmas.Bool.{cases_Bool, cases_order, true≢false}
use Rattle.std.proofs.lemmas.List.{length-take}
use Rattle.std.proofs.lemmas.List.Elements.{All-cons, All-nil, All-head, All-tail, All-filter, All-weaker}
use Rattle.std.proofs.lemmas.List.Sorted.{IsNonDecreasingBy-drop}
use Rattle.std.proofs.lemmas.List.Sums.{length-filter, count_by-le-length, count_by_more_yes, count_by_more_no}
use Rattle.std.proofs.lemmas.Option.{same_Some, get_or_from_slice_get}
use Rattle.path_segment.specs.Chain.{Chain}
use Rattle.path_segment.specs.Tests.{is_live}
use Rattle.path_server.specs.Index.{HasAddresses, IsIndex, rank, rank_at, order_at}
use Rattle.path_server.specs.inner.Index.{passes_at}
use Rattle.path_server.specs.inner.Blocks.{kept_before, moved_to}
use Rattle.path_server.proofs.Growing.{places_are_within}
use Rattle.path_server.proofs.Swept.{counted}

cases_option : (o : Option ℕ) → (o ≡ None) ⊎ ((y : ℕ) × (o ≡ Some y))
cases_option None = inl refl
cases_option (Some y) = inr (y, refl)

-- ---- each place

kept_through : (test : ℕ → Bool) (m : ℕ → Option ℕ) (xs : List ℕ)
    → length (filter test (filter_map m xs)) ≡ length (filter (λ x. option_map_or test (m x) false) xs)
kept_through test m [] = refl
kept_through test m (x ∷ xs) = elim (cases_option (m x)) [
  | inl none ↦ rw none (kept_through test m xs)
  | inr some ↦ rw (some.1) (elim (cases_Bool (test some.0)) [
    | inl passes ↦ rw passes (ap suc (kept_through test m xs))
    | inr fails ↦ rw fails (kept_through test m xs)
  ])
]

counted_through : (test : ℕ → Bool) (m : ℕ → Option ℕ) (xs : List ℕ)
    → count_by test (filter_map m xs) ≡ count_by (λ x. option_map_or test (m x) false) xs
counted_through test m xs =
    sym (length-filter test (filter_map m xs)) ∙ kept_through test m xs
    ∙ length-filter (λ x. option_map_or test (m x) false) xs

some_within : (xs : List Chain) (i : ℕ) (x : Chain) → slice_get xs i ≡ Some x → i < length xs
some_within [] i x there = absurd cc
some_within (y ∷ xs) zero x there = omega arith
some_within (y ∷ xs) (suc i) x there = let rest = some_within xs i x there in omega arith

-- the places of a list, moved, are the places of what is kept of it
ranged : (now : ℕ) (all rest : List Chain) (a c : ℕ)
    → ((k i : ℕ) → i ≡ a + k → slice_get all i ≡ slice_get rest k) → c ≡ kept_before now all a
    → filter_map (moved_to now all) (range_with_len a (length rest)) ≡ range_with_len c (length (filter (is_live now) rest))
ranged now all [] a c at is = refl
ranged now all (x ∷ rest) a c at is =
    let here : slice_get all a ≡ Some x = at 0 a (omega arith) in
    let within = some_within all a x here in
    let read = get_or_from_slice_get all a x x here in
    elim (cases_Bool (is_live now x)) [
      | inl live ↦
          (let more = count_by_more_yes (is_live now) all a x within (ap (is_live now) read ∙ live) in
          let behind = ranged now all rest (a + 1) (c + 1) (λ k i e. at (suc k) i (omega arith)) (ap (λ n. n + 1) is ∙ sym more) in
          rw here (rw live (ap (λ n. n ∷ filter_map (moved_to now all) (range_with_len (a + 1) (length rest))) (sym is) ∙ ap (λ r. c ∷ r) behind)))
      | inr dead ↦
          (let more = count_by_more_no (is_live now) all a x within (ap (is_live now) read ∙ dead) in
          let behind = ranged now all rest (a + 1) c (λ k i e. at (suc k) i (omega arith)) (is ∙ sym more) in
          rw here (rw dead behind))
    ]

own : (all : List Chain) (k i : ℕ) → i ≡ 0 + k → slice_get all i ≡ slice_get all k
own all k i e = ap (slice_get all) (omega arith)

-- ---- the order

at_kept : (p : Chain → Bool) (xs : List Chain) (i : ℕ) → option_map_or p (slice_get xs i) false ≡ true
    → slice_get (filter p xs) (length (filter p (take i xs))) ≡ slice_get xs i
at_kept p [] i passes = absurd (true≢false (sym passes))
at_kept p (x ∷ xs) zero passes = rw passes refl
at_kept p (x ∷ xs) (suc i) passes = elim (cases_Bool (p x)) [
  | inl kept ↦ rw kept (at_kept p xs i passes)
  | inr left ↦ rw left (at_kept p xs i passes)
]

moved_by : (b : Bool) (n x : ℕ) → (if b then Some n else None) ≡ Some x → (b ≡ true) × (n ≡ x)
moved_by true n x is = (refl, same_Some n x is)
moved_by false n x is = absurd cc

rank_kept : (now : ℕ) (segments : List Chain) (place : ℕ) → passes_at (is_live now) segments place ≡ true
    → rank_at (filter (is_live now) segments) (kept_before now segments place) ≡ rank_at segments place
rank_kept now segments place passes =
    ap (λ o. option_map_or rank o 0)
    (ap (slice_get (filter (is_live now) segments)) (sym (length-filter (is_live now) (take place segments)))
    ∙ at_kept (is_live now) segments place passes)

kept_low : (now : ℕ) (segments : List Chain) (place : ℕ) → kept_before now segments place ≤ place
kept_low now segments place =
    let few = count_by-le-length (is_live now) (take place segments) in
    let short = length-take place segments in
    omega arith

order_kept : (now : ℕ) (segments : List Chain) (x y x' y' : ℕ) → x < 2 ^ 64 → y < 2 ^ 64
    → moved_to now segments x ≡ Some x' → moved_to now segments y ≡ Some y'
    → order_at segments x ≤ order_at segments y
    → order_at (filter (is_live now) segments) x' ≤ order_at (filter (is_live now) segments) y'
order_kept now segments x y x' y' small other moved next order =
    let live = filter (is_live now) segments in
    let one = moved_by (passes_at (is_live now) segments x) (kept_before now segments x) x' moved in
    let two = moved_by (passes_at (is_live now) segments y) (kept_before now segments y) y' next in
    let rank_one : rank_at live x' ≡ rank_at segments x = ap (rank_at live) (sym one.1) ∙ rank_kept now segments x one.0 in
    let rank_two : rank_at live y' ≡ rank_at segments y = ap (rank_at live) (sym two.1) ∙ rank_kept now segments y two.0 in
    let low = kept_low now segments x in
    let same = one.1 in
    let same_two = two.1 in
    elim (cases_order x y) [
      | inl equal ↦ (let up = counted (is_live now) segments x y (omega arith) in omega arith)
      | inr (inl before) ↦ (let up = counted (is_live now) segments x y (omega arith) in omega arith)
      | inr (inr behind) ↦ omega arith
    ]

sorted_cons : (n : ℕ → ℕ) (x : ℕ) (xs : List ℕ) → All (λ y. n x ≤ n y) xs → IsNonDecreasingBy n xs
    → IsNonDecreasingBy n (x ∷ xs)
sorted_cons n x xs low rises zero zero d up within = omega arith
sorted_cons n x xs low rises zero (suc j) d up within = low j d (omega (arith, within))
sorted_cons n x xs low rises (suc i) zero d up within = absurd (omega (arith, up))
sorted_cons n x xs low rises (suc i) (suc j) d up within = rises i j d (omega (arith, up)) (omega (arith, within))

all_moved : (P : ℕ → Type 0) (m : ℕ → Option ℕ) (xs : List ℕ) → All (λ y. (z : ℕ) → m y ≡ Some z → P z) xs
    → All P (filter_map m xs)
all_moved P m [] all = All-nil P
all_moved P m (x ∷ xs) all =
    let rest = all_moved P m xs (All-tail (λ y. (z : ℕ) → m y ≡ Some z → P z) x xs all) in
    elim (cases_option (m x)) [
      | inl none ↦ rw none rest
      | inr some ↦ rw (some.1) (All-cons P some.0 (filter_map m xs) (All-head (λ y. (z : ℕ) → m y ≡ Some z → P z) x xs all some.0 some.1) rest)
    ]

sorted_moved : (n n' : ℕ → ℕ) (m : ℕ → Option ℕ) (Q : ℕ → Type 0)
    → ((x y x' y' : ℕ) → Q x → Q y → m x ≡ Some x' → m y ≡ Some y' → n x ≤ n y → n' x' ≤ n' y')
    → (xs : List ℕ) → All Q xs → IsNonDecreasingBy n xs → IsNonDecreasingBy n' (filter_map m xs)
sorted_moved n n' m Q keeps [] all rises = λ i j d up within. absurd (omega (arith, within))
sorted_moved n n' m Q keeps (x ∷ xs) all rises =
    let rest = sorted_moved n n' m Q keeps xs (All-tail Q x xs all) (IsNonDecreasingBy-drop n 1 (x ∷ xs) rises) in
    elim (cases_option (m x)) [
      | inl none ↦ rw none rest
      | inr some ↦ rw (some.1) (sorted_cons n' some.0 (filter_map m xs)
          (all_moved (λ z. n' some.0 ≤ n' z) m xs (λ k d within z is. keeps x (get_or xs k d) some.0 z (all 0 d (omega arith)) (all (suc k) d (omega arith)) some.1 is (rises 0 (suc k) d (omega arith) (omega arith))))
          rest)
    ]

pub swept_is_index : (now : ℕ) (segments : List Chain) (index : List ℕ) → IsIndex segments index → length segments < 2 ^ 64
    → IsIndex (filter (is_live now) segments) (filter_map (moved_to now segments) index)
swept_is_index now segments index is short =
    let m = moved_to now segments in
    let numbers = range_with_len 0 (length segments) in
    record {
      each = λ test. counted_through test m index ∙ is.each (λ x. option_map_or test (m x) false)
          ∙ sym (counted_through test m numbers) ∙ ap (count_by test) (ranged now segments segments 0 0 (own segments) refl);
      ordered = sorted_moved (order_at segments) (order_at (filter (is_live now) segments)) m (λ place. place < 2 ^ 64) (order_kept now segments) index
          (All-weaker (λ place. place < length segments) (λ place. place < 2 ^ 64) (λ place within. omega arith) index (places_are_within segments index is.each)) is.ordered;
      addresses = All-filter (is_live now) HasAddresses segments is.addresses;
    }
