-- In a list that is in order, numbers that stand twice stand beside each other.
use Rattle.std.proofs.Common.{◌≡◌, ℕ, suc, nat_eq, ◌||◌, List, [], ◌∷◌, get_or, refl, sym, ap, ◌∙◌, inl, inr, arith}
use Rattle.std.specs.List.{list_any}
use Rattle.std.specs.List.Sorted.{IsNonDecreasing}
use Rattle.std.proofs.lemmas.Bool.{cases_Bool, eqb-true, eqb-false, eq-eqb, ne_eqb}
use Rattle.std.proofs.lemmas.List.Folds.{list_any_none}
use Rattle.doubles.specs.Doubles.{has_double, begins_with}

-- what stands behind the first number is in order too
pub rest_in_order : (x : ℕ) (xs : List ℕ) → IsNonDecreasing (x ∷ xs) → IsNonDecreasing xs
rest_in_order x xs order i j d upward within = order (suc i) (suc j) d (omega arith) (omega arith)

-- a first number that stands once more is the second
pub beside : (x : ℕ) (xs : List ℕ) → IsNonDecreasing (x ∷ xs) → list_any (nat_eq x) xs ≡ begins_with xs x
beside x [] order = refl
beside x (y ∷ ys) order = elim (cases_Bool (nat_eq x y)) [
  | inl same ↦ rw same (sym (eq-eqb y x (sym (eqb-true x y same))))
  | inr other ↦ rw other (
      let apart = eqb-false x y other in
      let step = order 0 1 0 (omega arith) (omega arith) in
      list_any_none (nat_eq x) ys (λ k d within. ne_eqb x (get_or ys k d) (λ e.
      let later = order 1 (suc (suc k)) d (omega arith) (omega arith) in
      apart (omega (arith, e, later, step))))
      ∙ sym (ne_eqb y x (λ e. apart (sym e))))
]

-- so a list in order has doubles where its first two numbers are one, or the rest has
pub doubles_here : (x : ℕ) (xs : List ℕ) → IsNonDecreasing (x ∷ xs) → has_double (x ∷ xs) ≡ (begins_with xs x || has_double xs)
doubles_here x xs order = ap (λ b. b || has_double xs) (beside x xs order)
