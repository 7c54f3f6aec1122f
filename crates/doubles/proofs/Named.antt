-- Numbers that the elements of a list have.
use Rattle.std.proofs.Common.{◌≡◌, ℕ, nat_eq, Bool, true, false, ◌||◌, List, [], ◌∷◌, map, refl, sym, ap₂}
use Rattle.std.specs.List.{list_any}
use Rattle.std.proofs.lemmas.Bool.{eqb-true, eq-eqb}

-- two tests that are passed together are the same
pub same_test : (a b : Bool) → (a ≡ true → b ≡ true) → (b ≡ true → a ≡ true) → a ≡ b
same_test true b there back = sym (there refl)
same_test false true there back = back refl
same_test false false there back = refl

-- a number is among those of the elements where an element has it
pub named_is : {X : Type 0} (number_of : X → ℕ) (v : ℕ) (xs : List X)
    → list_any (nat_eq v) (map number_of xs) ≡ list_any (λ x. nat_eq (number_of x) v) xs
named_is number_of v [] = refl
named_is number_of v (x ∷ xs) = ap₂ (λ a b. a || b)
    (same_test (nat_eq v (number_of x)) (nat_eq (number_of x) v)
    (λ e. eq-eqb _ _ (sym (eqb-true _ _ e))) (λ e. eq-eqb _ _ (sym (eqb-true _ _ e))))
    (named_is number_of v xs)
