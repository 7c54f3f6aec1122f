-- An index that takes in the place of one more segment, or has as many places.
use Rattle.std.proofs.Common.{◌≡◌, ℕ, zero, suc, ◌+◌, ◌^◌, ◌<◌, ◌≤◌, nat_eq, true, cond, Some, List, [], ◌∷◌, ◌++◌, length, get_or, count_by, All, refl, ap, sym, ◌∙◌, arith}
use Rattle.std.specs.Prelude.{slice_get}
use Rattle.std.specs.Option.{option_map_or}
use Rattle.std.specs.List.{AllWithin, insert, range_with_len}
use Rattle.std.proofs.lemmas.Bool.{eq-eqb, eqb-true}
use Rattle.std.proofs.lemmas.List.{map-id, length_push}
use Rattle.std.proofs.lemmas.List.Elements.{All-push}
use Rattle.std.proofs.lemmas.List.Folds.{list_any_at, Any-from_list_any}
use Rattle.std.proofs.lemmas.List.FromFn.{map-range_with_len_more, length-range_with_len, get_or-range_with_len}
use Rattle.std.proofs.lemmas.List.Sorted.{IsNonDecreasingBy-insert}
use Rattle.std.proofs.lemmas.List.Sums.{fold_push, sum_by-insert}
use Rattle.path_segment.specs.Chain.{Chain}
use Rattle.path_server.specs.Index.{HasEachPlace, HasAddresses, IsIndex, rank, rank_at, order_at}
use Rattle.path_server.specs.inner.Index.{is_in}
use Rattle.std.specs.List.Sorted.{IsNonDecreasingBy}
use Rattle.std.proofs.lemmas.List.Elements.{All-weaker}
use Rattle.path_server.proofs.Places.{any_alike}
use Rattle.path_server.proofs.Ranks.{ranks_rise}

-- ---- each place

one_more : (n : ℕ) → range_with_len 0 (n + 1) ≡ range_with_len 0 n ++ n ∷ []
one_more n =
    sym (map-id _) ∙ map-range_with_len_more (λ k. k) 0 n n (omega arith) ∙ ap (λ numbers. numbers ++ n ∷ []) (map-id _)

each_with : (segments : List Chain) (segment : Chain) (index : List ℕ) (at : ℕ) → HasEachPlace segments index
    → HasEachPlace (segments ++ segment ∷ []) (insert index at (length segments))
each_with segments segment index at each test =
    let f : ℕ → ℕ = λ place. cond (test place) 1 0 in
    let more : length (segments ++ segment ∷ []) ≡ length segments + 1 = length_push segments segment in
    sum_by-insert f index at (length segments)
    ∙ ap (λ n. n + f (length segments)) (each test)
    ∙ sym (fold_push (λ a x. a + f x) 0 (range_with_len 0 (length segments)) (length segments))
    ∙ ap (count_by test) (sym (one_more (length segments)) ∙ ap (range_with_len 0) (sym more))

-- every element of an index is a place
pub places_are_within : (segments : List Chain) (index : List ℕ) → HasEachPlace segments index
    → All (λ place. place < length segments) index
places_are_within segments index each k d within =
    let place = get_or index k d in
    let here : is_in index place ≡ true = list_any_at (nat_eq place) index k d within (eq-eqb place place refl) in
    let there = sym (any_alike segments index each (nat_eq place)) ∙ here in
    let at = Any-from_list_any (nat_eq place) (range_with_len 0 (length segments)) there in
    let long = length-range_with_len 0 (length segments) in
    let found = get_or-range_with_len 0 (length segments) at.0 at.1 (omega (arith, at.2)) in
    let same = eqb-true place at.1 at.4 in
    omega (arith, at.2, at.3)

-- ---- the order

rank_before : (segments : List Chain) (segment : Chain) (i : ℕ) → i < length segments
    → slice_get (segments ++ segment ∷ []) i ≡ slice_get segments i
rank_before [] segment i within = absurd (omega arith)
rank_before (s ∷ segments) segment zero within = refl
rank_before (s ∷ segments) segment (suc i) within = rank_before segments segment i (omega arith)

rank_last : (segments : List Chain) (segment : Chain)
    → slice_get (segments ++ segment ∷ []) (length segments) ≡ Some segment
rank_last [] segment = refl
rank_last (s ∷ segments) segment = rank_last segments segment

-- the index with the place of one more segment, behind those of its ends or ends below them
pub grown_is_index : (segments : List Chain) (segment : Chain) (index : List ℕ) (at : ℕ)
    → IsIndex segments index → HasAddresses segment → length segments < 2 ^ 64 → at ≤ length index
    → AllWithin (λ place. rank_at segments place ≤ rank segment) index 0 at
    → AllWithin (λ place. rank segment < rank_at segments place) index at (length index)
    → IsIndex (segments ++ segment ∷ []) (insert index at (length segments))
grown_is_index segments segment index at is fits short within below above =
    let n = length segments in
    let all = segments ++ segment ∷ [] in
    let inside = places_are_within segments index is.each in
    let last : rank_at all n ≡ rank segment = ap (λ o. option_map_or rank o 0) (rank_last segments segment) in
    let kept : (i : ℕ) → i < n → rank_at all i ≡ rank_at segments i = λ i inner. ap (λ o. option_map_or rank o 0) (rank_before segments segment i inner) in
    record {
      each = each_with segments segment index at is.each;
      ordered = IsNonDecreasingBy-insert (order_at all) index at n
          (λ i j d upward inner. (let order = is.ordered i j d upward inner in let one = kept (get_or index i d) (inside i d (omega arith)) in let other = kept (get_or index j d) (inside j d inner) in omega arith))
          within
          (λ k d low. (let rise = below k d (omega arith) low in let one = kept (get_or index k d) (inside k d (omega arith)) in let place = inside k d (omega arith) in omega arith))
          (λ k d low high. (let rise = above k d low high in let one = kept (get_or index k d) (inside k d high) in omega arith));
      addresses = All-push HasAddresses segments segment is.addresses fits;
    }

-- an index has its ends in order
pub index_rises : (segments : List Chain) (index : List ℕ) → IsIndex segments index → length segments < 2 ^ 64
    → IsNonDecreasingBy (rank_at segments) index
index_rises segments index is short =
    ranks_rise segments index
    (All-weaker (λ place. place < length segments) (λ place. place < 2 ^ 64) (λ place within. omega arith) _ (places_are_within segments index is.each))
    is.ordered
