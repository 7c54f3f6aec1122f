-- The segments at the places that an index has, against those that a filter keeps of the list.
use Rattle.std.proofs.Common.{◌≡◌, ℕ, suc, ◌+◌, ◌^◌, ◌<◌, nat_eq, nat_lt, Bool, true, ◌&&◌, Option, Some, None, List, [], ◌∷◌, ◌++◌, length, get_or, filter, count_by, All, refl, ap, sym, ◌∙◌, inl, inr, arith}
use Rattle.std.specs.Prelude.{slice_get}
use Rattle.std.specs.List.{list_any, range_with_len, cons_option}
use Rattle.std.specs.Prelude.{take, option_to_list}
use Rattle.std.proofs.lemmas.Grind.{take_at_read}
use Rattle.std.proofs.lemmas.List.Elements.{filter_map-append}
use Rattle.std.specs.List.Sorted.{IsStrictlyIncreasing}
use Rattle.std.proofs.lemmas.Bool.{cases_Bool}
use Rattle.std.proofs.lemmas.List.FromFn.{get_or-range_with_len, length-range_with_len}
use Rattle.std.proofs.lemmas.List.Kept.{AllPairs-from_increasing, AllPairs-filter}
use Rattle.std.proofs.lemmas.List.Sums.{length-filter}
use Rattle.std.proofs.lemmas.Option.{slice_get-get_or}
use Rattle.path_segment.specs.declared.kind.SegKind.TheVariants.{Intra}
use Rattle.path_segment.specs.Chain.{Chain}
use Rattle.path_segment.specs.Tests.{is_live}
use Rattle.path_server.specs.Index.{HasEachPlace, IsIndex, rank_between}
use Rattle.path_server.specs.inner.Index.{lies_between, live_places, segments_at, passes_at, is_in}
use Rattle.path_server.specs.Lookup.{is_intra_to}
use Rattle.path_server.proofs.Lying.{ending_at}
use Rattle.path_server.proofs.Orders.{any_is_kept, filter_on, is_in-filter, range_rises, same_numbers}

-- ---- the places of a list

-- what passes a test at the places of the rest of a list is what a filter keeps of the rest
kept_from : (p : Chain → Bool) (all rest : List Chain) (a : ℕ)
    → ((k i : ℕ) → i ≡ a + k → slice_get all i ≡ slice_get rest k)
    → segments_at all (filter (passes_at p all) (range_with_len a (length rest))) ≡ filter p rest
kept_from p all [] a at = refl
kept_from p all (x ∷ rest) a at =
    let here = at 0 a (omega arith) in
    let more = kept_from p all rest (a + 1) (λ k i e. at (suc k) i (omega arith)) in
    elim (cases_Bool (p x)) [
      | inl passes ↦ rw here (rw passes (rw here (ap (λ found. x ∷ found) more)))
      | inr fails ↦ rw here (rw fails more)
    ]

long_from : (p : Chain → Bool) (all rest : List Chain) (a : ℕ)
    → ((k i : ℕ) → i ≡ a + k → slice_get all i ≡ slice_get rest k)
    → length (filter (passes_at p all) (range_with_len a (length rest))) ≡ length (filter p rest)
long_from p all [] a at = refl
long_from p all (x ∷ rest) a at =
    let here = at 0 a (omega arith) in
    let more = long_from p all rest (a + 1) (λ k i e. at (suc k) i (omega arith)) in
    elim (cases_Bool (p x)) [
      | inl passes ↦ rw here (rw passes (ap suc more))
      | inr fails ↦ rw here (rw fails more)
    ]

own : (all : List Chain) (k i : ℕ) → i ≡ 0 + k → slice_get all i ≡ slice_get all k
own all k i e = ap (slice_get all) (omega arith)

-- rising places, just those at which a test is passed, have the segments that a filter keeps
pub found_is_kept : (p : Chain → Bool) (all : List Chain) (places : List ℕ) → IsStrictlyIncreasing places
    → ((i : ℕ) → is_in places i ≡ (passes_at p all i && is_in (range_with_len 0 (length all)) i))
    → segments_at all places ≡ filter p all
found_is_kept p all places rises just =
    let numbers = range_with_len 0 (length all) in
    ap (segments_at all) (same_numbers places (filter (passes_at p all) numbers) (AllPairs-from_increasing places rises)
    (AllPairs-filter (λ x y. x < y) (passes_at p all) numbers (range_rises 0 (length all)))
    (λ i. just i ∙ sym (is_in-filter (passes_at p all) numbers i)))
    ∙ kept_from p all all 0 (own all)

-- ---- the places of an index

long_alike : (segments : List Chain) (index : List ℕ) → HasEachPlace segments index → (p : ℕ → Bool)
    → length (filter p index) ≡ length (filter p (range_with_len 0 (length segments)))
long_alike segments index each p = length-filter p index ∙ each p ∙ sym (length-filter p _)

-- an index and the places of the list pass a test alike
pub any_alike : (segments : List Chain) (index : List ℕ) → HasEachPlace segments index → (p : ℕ → Bool)
    → list_any p index ≡ list_any p (range_with_len 0 (length segments))
any_alike segments index each p =
    any_is_kept p index ∙ ap (nat_lt 0) (long_alike segments index each p) ∙ sym (any_is_kept p _)

all_kept : {X : Type 0} (xs : List X) → filter (λ x. true) xs ≡ xs
all_kept [] = refl
all_kept (x ∷ xs) = ap (λ rest. x ∷ rest) (all_kept xs)

-- an index is as long as its list
pub index_is_long : (segments : List Chain) (index : List ℕ) → HasEachPlace segments index
    → length index ≡ length segments
index_is_long segments index each =
    sym (ap length (all_kept index)) ∙ long_alike segments index each (λ i. true) ∙ ap length
    (all_kept _) ∙ length-range_with_len 0 _

at_each_place : (segments : List Chain) (p : ℕ → Bool) (q : Chain → Bool)
    → ((i : ℕ) (segment : Chain) → slice_get segments i ≡ Some segment → p i ≡ q segment)
    → All (λ i. p i ≡ passes_at q segments i) (range_with_len 0 (length segments))
at_each_place [] p q same k d within = absurd (omega arith)
at_each_place (s ∷ segments) p q same k d within =
    let long = length-range_with_len 0 (length (s ∷ segments)) in
    let i = get_or (range_with_len 0 (length (s ∷ segments))) k d in
    let number : i ≡ 0 + k = get_or-range_with_len 0 (length (s ∷ segments)) k d (omega arith) in
    let there = slice_get-get_or (s ∷ segments) i s (omega arith) in
    rw there (same i _ there)

-- where a test of places is passed just where one of their segments is: it is counted alike
pub count_alike : (segments : List Chain) (index : List ℕ) → HasEachPlace segments index
    → (p : ℕ → Bool) (q : Chain → Bool)
    → ((i : ℕ) (segment : Chain) → slice_get segments i ≡ Some segment → p i ≡ q segment)
    → length (filter p index) ≡ count_by q segments
count_alike segments index each p q same =
    long_alike segments index each p
    ∙ ap length (filter_on p (passes_at q segments) _ (at_each_place segments p q same))
    ∙ long_from q segments segments 0 (own segments) ∙ length-filter q segments

-- and it is passed at some place alike
pub found_alike : (segments : List Chain) (index : List ℕ) → HasEachPlace segments index
    → (p : ℕ → Bool) (q : Chain → Bool)
    → ((i : ℕ) (segment : Chain) → slice_get segments i ≡ Some segment → p i ≡ q segment)
    → list_any p index ≡ list_any q segments
found_alike segments index each p q same =
    any_is_kept p index ∙ ap (nat_lt 0)
    (count_alike segments index each p q same ∙ sym (length-filter q segments)) ∙ sym
    (any_is_kept q segments)

-- ---- look-ups

-- the live places that lie between two numbers
pub is_in-live : (segments : List Chain) (index : List ℕ) → HasEachPlace segments index → (now low high i : ℕ)
    → is_in (live_places segments index now low high) i ≡ (passes_at (is_live now) segments i && (lies_between segments low high i && is_in (range_with_len 0 (length segments)) i))
is_in-live segments index each now low high i =
    is_in-filter (passes_at (is_live now) segments) (filter (lies_between segments low high) index) i
    ∙ ap (λ b. passes_at (is_live now) segments i && b)
    (is_in-filter (lies_between segments low high) index i ∙ ap (λ b. lies_between segments low high i && b) (any_alike segments index each (nat_eq i)))

-- the live segments that end in an AS, found by the index
pub ending_is_kept : (segments : List Chain) (index places : List ℕ) → IsIndex segments index → (ia now : ℕ)
    → ia < 2 ^ 64 → IsStrictlyIncreasing places
    → ((i : ℕ) → is_in places i ≡ is_in (live_places segments index now (rank_between Intra 0 ia) (rank_between Intra 18446744073709551615 ia)) i)
    → segments_at segments places ≡ filter (is_intra_to ia now) segments
ending_is_kept segments index places is ia now fits rises just =
    found_is_kept (is_intra_to ia now) segments places rises (λ i. just i
    ∙ is_in-live segments index is.each now _ _ i
    ∙ ending_at segments is.addresses ia now fits (is_in (range_with_len 0 (length segments)) i) i)

-- ---- copies

one_at : (o : Option Chain) → cons_option o [] ≡ option_to_list o
one_at None = refl
one_at (Some x) = refl

-- the segments at one more place
pub segments_at_more : (segments : List Chain) (places : List ℕ) (i : ℕ) (d : ℕ) → i < length places
    → segments_at segments (take (i + 1) places) ≡ segments_at segments (take i places) ++ option_to_list (slice_get segments (get_or places i d))
segments_at_more segments places i d within =
    ap (segments_at segments) (take_at_read places i d within).1
    ∙ filter_map-append (slice_get segments) (take i places) (get_or places i d ∷ [])
    ∙ ap (λ rest. segments_at segments (take i places) ++ rest) (one_at (slice_get segments (get_or places i d)))
