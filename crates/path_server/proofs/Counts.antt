-- How many elements a filter leaves out.
use Rattle.std.proofs.Common.{◌≡◌, ◌-◌, Bool, not, List, length, filter, count_by, refl, arith}
use Rattle.std.proofs.lemmas.List.Filters.{length-filter_both}
use Rattle.std.proofs.lemmas.List.Sums.{length-filter}

-- what a filter leaves out is what fails its test
pub left_out : {X : Type 0} (p : X → Bool) (xs : List X)
    → length xs - length (filter p xs) ≡ count_by (λ x. not (p x)) xs
left_out {X} p xs =
    let both = length-filter_both p (λ x. not (p x)) (λ _. refl) xs in
    let others = length-filter (λ x. not (p x)) xs in
    omega arith
