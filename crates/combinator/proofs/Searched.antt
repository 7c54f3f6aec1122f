-- Searching a list in a strict order by halving.
use Rattle.std.proofs.Common.{◌≡◌, ℕ, zero, suc, ◌+◌, ◌<◌, List, [], ◌∷◌, length, get_or, refl, sym, ap, subst, ◌∙◌, inl, inr, arith}
use Rattle.std.specs.List.{AllWithin}
use Rattle.std.specs.Cmp.{IsTotalOrder}
use Rattle.std.specs.Ordering.{ordering_reverse}
use Rattle.std.specs.declared.cmp.Ordering.{Ordering}
use Rattle.std.specs.declared.cmp.Ordering.TheVariants.{Less, Greater}
use Rattle.std.proofs.lemmas.Bool.{cases_lt}
use Rattle.std.proofs.lemmas.List.Elements.{All-from_recursion}
use Rattle.combinator.specs.inner.Placed.{InOrder}

-- what stands at a place of a list is the same for any default
pub default_of : {X : Type 0} (xs : List X) (k : ℕ) (d e : X) → k < length xs → get_or xs k d ≡ get_or xs k e
default_of [] k d e within = absurd (omega arith)
default_of (x ∷ xs) zero d e within = refl
default_of (x ∷ xs) (suc k) d e within = default_of xs k d e (omega arith)

module _ {X : Type 0} (R : X → X → Ordering) (o : IsTotalOrder R) where
  pub stand_before : (xs : List X) → InOrder R xs → (i j : ℕ) (d : X) → i < j → j < length xs
      → R (get_or xs i d) (get_or xs j d) ≡ Less
  stand_before [] order i j d less within = absurd (omega arith)
  stand_before (x ∷ xs) order i zero d less within = absurd (omega arith)
  stand_before (x ∷ xs) order zero (suc j) d less within = All-from_recursion
      (λ y. R x y ≡ Less) xs order.0 j d (omega arith)
  stand_before (x ∷ xs) order (suc i) (suc j) d less within = stand_before xs order.1 i j d (omega arith) (omega arith)

  module _ (xs : List X) (x : X) (middle : ℕ) (y : X) (order : InOrder R xs) (within : middle < length xs)
      (is : y ≡ get_or xs middle y) where
    here : (d : X) → y ≡ get_or xs middle d
    here d = is ∙ default_of xs middle y d within

    -- where the one in the middle stands before, all up to it do
    pub less_upto : R y x ≡ Less → AllWithin (λ z. R z x ≡ Less) xs 0 (middle + 1)
    less_upto less k d from upto = elim (cases_lt k middle) [
      | inl before ↦ o.trans (get_or xs k d) y x
          (subst (λ z. R (get_or xs k d) z ≡ Less) (sym (here d)) (stand_before xs order k middle d before within)) less
      | inr behind ↦
          (let place : middle ≡ k = omega arith in subst (λ z. R z x ≡ Less) (here d ∙ ap (λ i. get_or xs i d) place) less)
    ]

    -- where it stands behind, all from it on do
    pub greater_from : R y x ≡ Greater → AllWithin (λ z. R z x ≡ Greater) xs middle (length xs)
    greater_from greater k d from upto = elim (cases_lt middle k) [
      | inl before ↦ (
          let less : R x y ≡ Less = o.antisymm x y ∙ ap ordering_reverse greater in
          let further : R x (get_or xs k d) ≡ Less =
          o.trans x y (get_or xs k d) less (subst (λ z. R z (get_or xs k d) ≡ Less) (sym (here d)) (stand_before xs order middle k d before upto)) in
          o.antisymm (get_or xs k d) x ∙ ap ordering_reverse further)
      | inr behind ↦
          (let place : middle ≡ k = omega arith in subst (λ z. R z x ≡ Greater) (here d ∙ ap (λ i. get_or xs i d) place) greater)
    ]
