-- What holds of every store that operations made: no two segments are equal, and of each kind and
-- ends there are few.
use Rattle.std.proofs.Common.{◌≡◌, ◌≢◌, ℕ, ◌+◌, ◌<◌, ◌≤◌, Bool, true, false, cond, not, List, [], ◌∷◌, ◌++◌, length, get_or, filter, count_by, fold, AllPairs, Contains, Result, Ok, Err, refl, subst, sym, ◌∙◌, inl, inr, arith}
use Rattle.std.proofs.lemmas.Bool.{cases_Bool}
use Rattle.std.proofs.lemmas.List.Elements.{Contains-get_or, filter_agree}
use Rattle.std.proofs.lemmas.List.Filters.{sum_by-filter_both}
use Rattle.std.proofs.lemmas.List.Kept.{AllPairs-filter}
use Rattle.std.proofs.lemmas.List.Quantifiers.{all_pairs_push}
use Rattle.std.proofs.lemmas.List.Sums.{fold_push, length-filter}
use Rattle.path_segment.specs.Chain.{Chain}
use Rattle.path_server.specs.declared.fault.StoreFault.{StoreFault}
use Rattle.path_server.specs.declared.op.StoreOp.TheVariants.{Register, Sweep}
use Rattle.path_segment.specs.Tests.{is_live}
use Rattle.path_server.specs.Segment.{is_alike}
use Rattle.path_server.specs.Store.{Operation, answer_to, IsRegisterAnswer, with_new, with_registered, live_segments, after_operation, store_of}
use Rattle.path_server.proofs.Plain.{answer_is_plain}
use Rattle.path_server.proofs.Decided.{is_alike-same}

-- what each operation keeps, all of them keep
fold_keeps : (P : List Chain → Type 0)
    → ((segments : List Chain) (operation : Operation) → P segments → P (after_operation segments operation))
    → (segments : List Chain) (operations : List Operation) → P segments
    → P (fold after_operation segments operations)
fold_keeps P step segments [] now = now
fold_keeps P step segments (operation ∷ operations) now =
    fold_keeps P step (after_operation segments operation) operations (step segments operation now)

abbrev IsDistinct : List Chain → Type 0
IsDistinct segments = AllPairs (λ one other. one ≢ other) segments

abbrev IsBounded : List Chain → Type 0
IsBounded segments = (segment : Chain) → count_by (is_alike segment) segments ≤ 32

-- ---- no two are equal

new_is_other : (segments : List Chain) (segment : Chain) → ¬ (Contains segments segment) → (k : ℕ) (d : Chain)
    → k < length segments → get_or segments k d ≢ segment
new_is_other segments segment none k d within = λ same. none (subst (Contains segments) same (Contains-get_or segments k d within))

distinct_with : (segments : List Chain) (segment : Chain) (now : ℕ) (answer : Result Bool StoreFault)
    → IsRegisterAnswer segments segment now answer → IsDistinct segments
    → IsDistinct (with_new answer segments segment)
distinct_with segments segment now (Ok true) is distinct =
    all_pairs_push (λ one other. one ≢ other) segments segment distinct (new_is_other segments segment is.1)
distinct_with segments segment now (Ok false) is distinct = distinct
distinct_with segments segment now (Err fault) is distinct = distinct

distinct_after : (segments : List Chain) (operation : Operation) → IsDistinct segments
    → IsDistinct (after_operation segments operation)
unfolding with_registered live_segments
distinct_after segments (Register segment now) distinct =
    distinct_with segments segment now (answer_to segments segment now) (answer_is_plain segments segment now) distinct
distinct_after segments (Sweep now) distinct =
    AllPairs-filter (λ one other. one ≢ other) (is_live now) segments distinct

pub stores_are_distinct : (operations : List Operation) → AllPairs (λ one other. one ≢ other) (store_of operations)
stores_are_distinct operations =
    fold_keeps IsDistinct distinct_after [] operations (λ i j d before within. absurd (omega arith))

-- ---- few are alike

count_by-same : (p q : Chain → Bool) → ((x : Chain) → p x ≡ q x) → (xs : List Chain) → count_by p xs ≡ count_by q xs
count_by-same p q same xs =
    let kept : length (filter p xs) ≡ length (filter q xs) = rw (filter_agree p q same xs) refl in
    sym (length-filter p xs) ∙ kept ∙ length-filter q xs

bounded_push : (segments : List Chain) (segment : Chain) → count_by (is_alike segment) segments < 32
    → IsBounded segments → IsBounded (segments ++ segment ∷ [])
bounded_push segments segment free bounded other =
    let pushed = fold_push (λ a x. a + cond (is_alike other x) 1 0) 0 segments segment in
    elim (cases_Bool (is_alike other segment)) [
      | inl same_ends ↦
          (let same = count_by-same (is_alike other) (is_alike segment) (is_alike-same other segment same_ends) segments in rw pushed (rw same_ends (omega arith)))
      | inr unlike ↦ (let few = bounded other in rw pushed (rw unlike (omega arith)))
    ]

bounded_with : (segments : List Chain) (segment : Chain) (now : ℕ) (answer : Result Bool StoreFault)
    → IsRegisterAnswer segments segment now answer → IsBounded segments
    → IsBounded (with_new answer segments segment)
bounded_with segments segment now (Ok true) is bounded = bounded_push segments segment is.2 bounded
bounded_with segments segment now (Ok false) is bounded = bounded
bounded_with segments segment now (Err fault) is bounded = bounded

bounded_after : (segments : List Chain) (operation : Operation) → IsBounded segments
    → IsBounded (after_operation segments operation)
unfolding with_registered live_segments
bounded_after segments (Register segment now) bounded =
    bounded_with segments segment now (answer_to segments segment now) (answer_is_plain segments segment now) bounded
bounded_after segments (Sweep now) bounded = λ other. (
    let parts =
    sum_by-filter_both (is_live now) (λ s. not (is_live now s)) (λ _. refl) (λ s. cond (is_alike other s) 1 0) segments in
    let few = bounded other in
    omega arith)

pub stores_are_few : (operations : List Operation) (segment : Chain)
    → count_by (is_alike segment) (store_of operations) ≤ 32
stores_are_few operations = fold_keeps IsBounded bounded_after [] operations (λ segment. omega arith)
