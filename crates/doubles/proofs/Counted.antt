-- Numbers stand twice in a list whatever its order.
use Rattle.std.proofs.Common.{◌≡◌, ℕ, ◌+◌, ◌≤◌, nat_eq, true, false, cond, List, [], ◌∷◌, count_by, refl, sym, ap, ◌∙◌, inl, inr, arith}
use Rattle.std.specs.List.{list_any}
use Rattle.std.specs.List.Sorted.{IsPermutation}
use Rattle.std.proofs.lemmas.Bool.{cases_Bool, or_parts, eqb-true, eq-eqb}
use Rattle.std.proofs.lemmas.List.Sorted.{sum_by-IsPermutation}
use Rattle.std.proofs.lemmas.List.Sums.{sum_by-cons}
use Rattle.doubles.specs.Doubles.{has_double}

-- how often a number stands in a list
abbrev times : ℕ → List ℕ → ℕ
times v xs = count_by (nat_eq v) xs

-- a first number is one more, or another
one_more : (v x : ℕ) (xs : List ℕ) → nat_eq v x ≡ true → times v (x ∷ xs) ≡ times v xs + 1
one_more v x xs same =
    let first : ◌≡◌ {A = ℕ} (cond (nat_eq v x) 1 0) 1 = ap (λ b. cond {A = ℕ} b 1 0) same in
    let all : times v (x ∷ xs) ≡ cond (nat_eq v x) 1 0 + times v xs = sum_by-cons (λ y. cond (nat_eq v y) 1 0) x xs in
    omega (arith, first, all)

none_more : (v x : ℕ) (xs : List ℕ) → nat_eq v x ≡ false → times v (x ∷ xs) ≡ times v xs
none_more v x xs other =
    let first : ◌≡◌ {A = ℕ} (cond (nat_eq v x) 1 0) 0 = ap (λ b. cond {A = ℕ} b 1 0) other in
    let all : times v (x ∷ xs) ≡ cond (nat_eq v x) 1 0 + times v xs = sum_by-cons (λ y. cond (nat_eq v y) 1 0) x xs in
    omega (arith, first, all)

-- a number that is not in a list stands there no time
no_times : (xs : List ℕ) (v : ℕ) → list_any (nat_eq v) xs ≡ false → times v xs ≡ 0
no_times [] v none = refl
no_times (x ∷ xs) v none =
    let parts = or_parts (nat_eq v x) (list_any (nat_eq v) xs) none in
    none_more v x xs parts.0 ∙ no_times xs v parts.1

not_there : (xs : List ℕ) (v : ℕ) → times v xs ≡ 0 → list_any (nat_eq v) xs ≡ false
not_there [] v none = refl
not_there (x ∷ xs) v none = elim (cases_Bool (nat_eq v x)) [
  | inl same ↦ (let more = one_more v x xs same in absurd (omega (arith, more, none)))
  | inr other ↦ (let more = none_more v x xs other in
      rw other (not_there xs v (omega (arith, more, none))))
]

-- without doubles each number stands there once at most
at_most_once : (xs : List ℕ) (v : ℕ) → has_double xs ≡ false → times v xs ≤ 1
at_most_once [] v none = omega arith
at_most_once (x ∷ xs) v none =
    let parts = or_parts (list_any (nat_eq x) xs) (has_double xs) none in
    elim (cases_Bool (nat_eq v x)) [
      | inl same ↦ (let more = one_more v x xs same in
          let rest = no_times xs v (ap (λ n. list_any (nat_eq n) xs) (eqb-true v x same) ∙ parts.0) in
          omega (arith, more, rest))
      | inr other ↦ (let more = none_more v x xs other in
          let rest = at_most_once xs v parts.1 in
          omega (arith, more, rest))
    ]

no_double : (xs : List ℕ) → ((v : ℕ) → times v xs ≤ 1) → has_double xs ≡ false
no_double [] few = refl
no_double (x ∷ xs) few =
    let own = one_more x x xs (eq-eqb x x refl) in
    let first = few x in
    rw (not_there xs x (omega (arith, own, first))) (no_double xs (λ v. elim (cases_Bool (nat_eq v x)) [
      | inl same ↦ (let more = one_more v x xs same in let all = few v in omega (arith, more, all))
      | inr other ↦ (let more = none_more v x xs other in let all = few v in omega (arith, more, all))
    ]))

-- a list has doubles where one with its numbers in another order has
pub same_doubles : (xs ys : List ℕ) → IsPermutation xs ys → has_double ys ≡ has_double xs
same_doubles xs ys moved =
    let same : (v : ℕ) → times v ys ≡ times v xs =
    λ v. sum_by-IsPermutation (λ x. cond (nat_eq v x) 1 0) xs ys moved in
    elim (cases_Bool (has_double xs)) [
      | inl double ↦ elim (cases_Bool (has_double ys)) [
        | inl other ↦ other ∙ sym double
        | inr none ↦ (let back = no_double xs (λ v. let few = at_most_once ys v none in let e = same v in omega (arith, few, e)) in cc)
      ]
      | inr none ↦ no_double ys (λ v. let few = at_most_once xs v none in let e = same v in omega (arith, few, e)) ∙ sym none
    ]
