-- What the order of an index says of the ends of its segments, and which part of it lies between
-- two ends.
use Rattle.std.proofs.Common.{◌≡◌, ℕ, zero, suc, ◌+◌, ◌^◌, ◌-◌, ◌<◌, ◌≤◌, ltb, Bool, true, false, not, List, [], ◌∷◌, length, get_or, take, drop, filter, All, Some, subst, refl, ap, sym, ◌∙◌, arith}
use Rattle.std.proofs.lemmas.Bool.{not-true, ltb-false, le-ltb}
use Rattle.std.specs.Prelude.{slice_get}
use Rattle.std.proofs.lemmas.Option.{same_Some}
use Rattle.std.specs.List.{AllWithin, range_with_len}
use Rattle.std.specs.List.Sorted.{IsNonDecreasingBy, IsPartitionedBy}
use Rattle.std.proofs.lemmas.List.{map-id, get_or-drop}
use Rattle.std.proofs.lemmas.List.FromFn.{fill_by_all}
use Rattle.path_segment.specs.Chain.{Chain}
use Rattle.path_server.specs.Index.{rank_at, order_at}

-- places in order have ends in order
pub ranks_rise : (segments : List Chain) (index : List ℕ) → All (λ place. place < 2 ^ 64) index
    → IsNonDecreasingBy (order_at segments) index → IsNonDecreasingBy (rank_at segments) index
ranks_rise segments index small rises i j d upward within =
    let order = rises i j d upward within in
    let bound = small j d within in
    omega arith

-- what is no higher than a bound comes first
pub no_higher_first : (segments : List Chain) (index : List ℕ) (bound : ℕ)
    → IsNonDecreasingBy (rank_at segments) index
    → IsPartitionedBy (λ place. not (ltb bound (rank_at segments place))) index
no_higher_first segments index bound rises i j d upward within passes =
    let rise = rises i j d upward within in
    let low = ltb-false _ _ (not-true _ passes) in
    ap not (le-ltb bound _ (omega arith))

-- where the ends at the first place are above a bound, all are
pub all_above : (segments : List Chain) (index : List ℕ) (bound place : ℕ)
    → slice_get index 0 ≡ Some place → IsNonDecreasingBy (rank_at segments) index
    → bound < rank_at segments place
    → AllWithin (λ other. bound < rank_at segments other) index 0 (length index)
all_above segments [] bound place first rises above k d low high = absurd (omega (arith, high))
all_above segments (one ∷ rest) bound place first rises above zero d low high =
    subst (λ other. bound < rank_at segments other) (same_Some place one (sym first)) above
all_above segments (one ∷ rest) bound place first rises above (suc k) d low high =
    let start = subst (λ other. bound < rank_at segments other) (same_Some place one (sym first)) above in
    let rise = rises 0 (suc k) d (omega arith) high in
    omega arith

nothing_passes : {X : Type 0} (p : X → Bool) (xs : List X) → AllWithin (λ x. p x ≡ false) xs 0 (length xs)
    → filter p xs ≡ []
nothing_passes p [] fails = refl
nothing_passes p (x ∷ xs) fails =
    rw (fails 0 x (omega arith) (omega arith))
    (nothing_passes p xs (λ k d low high. fails (suc k) d (omega arith) (omega arith)))

-- where just the n elements from one place on pass a test, they are what a filter keeps
pub part_is_kept : {X : Type 0} (p : X → Bool) (xs : List X) (from n : ℕ) → from + n ≤ length xs
    → AllWithin (λ x. p x ≡ false) xs 0 from → AllWithin (λ x. p x ≡ true) xs from (from + n)
    → AllWithin (λ x. p x ≡ false) xs (from + n) (length xs) → take n (drop from xs) ≡ filter p xs
part_is_kept p [] zero zero within before between after = refl
part_is_kept p [] (suc from) n within before between after = absurd (omega arith)
part_is_kept p [] zero (suc n) within before between after = absurd (omega arith)
part_is_kept p (x ∷ xs) zero zero within before between after = sym (nothing_passes p (x ∷ xs) after)
part_is_kept p (x ∷ xs) zero (suc n) within before between after =
    rw (between 0 x (omega arith) (omega arith)) (ap (λ rest. x ∷ rest) (part_is_kept p xs zero n (omega arith)
    (λ k d low high. absurd (omega arith)) (λ k d low high. between (suc k) d (omega arith) (omega arith))
    (λ k d low high. after (suc k) d (omega arith) (omega arith))))
part_is_kept p (x ∷ xs) (suc from) n within before between after =
    rw (before 0 x (omega arith) (omega arith)) (part_is_kept p xs from n (omega arith)
    (λ k d low high. before (suc k) d (omega arith) (omega arith))
    (λ k d low high. between (suc k) d (omega arith) (omega arith))
    (λ k d low high. after (suc k) d (omega arith) (omega arith)))

-- what holds of a part of what stands behind the first elements holds of that part of the list
pub part_behind : {X : Type 0} (P : X → Type 0) (xs : List X) (from low high : ℕ)
    → AllWithin P (drop from xs) low high → AllWithin P xs (from + low) (from + high)
part_behind P xs from low high holds k d after before =
    let there : from + (k - from) ≡ k = omega arith in
    subst P (get_or-drop from xs (k - from) d ∙ ap (λ i. get_or xs i d) there)
    (holds (k - from) d (omega arith) (omega arith))

-- a list whose elements are their own places
pub numbered_is : (xs : List ℕ) → ((k : ℕ) → k < length xs → get_or xs k 0 ≡ k) → xs ≡ range_with_len 0 (length xs)
numbered_is xs own = fill_by_all (λ k. k) xs (length xs) 0 refl own ∙ map-id _
