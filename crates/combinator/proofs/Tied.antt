-- Two lists in one strict order, each of which has what the other has or is full before it, agree
-- place by place.
use Rattle.std.proofs.Common.{◌≡◌, ℕ, zero, suc, ◌≤◌, List, [], ◌∷◌, length, refl, sym, ap, ◌∙◌, inl, inr, arith}
use Rattle.std.specs.List.{AllByRecursion, AllZip}
use Rattle.std.specs.Cmp.{IsTotalOrder}
use Rattle.std.specs.Ordering.{ordering_reverse}
use Rattle.std.specs.declared.cmp.Ordering.{Ordering}
use Rattle.std.specs.declared.cmp.Ordering.TheVariants.{Less, Equal, Greater}
use Rattle.std.proofs.lemmas.Cmp.{tied_back}
use Rattle.combinator.specs.inner.Placed.{Tied, InOrder, Met}

module _ {X : Type 0} (R : X → X → Ordering) (o : IsTotalOrder R) where
  pub further : (x y : X) (ys : List X) → R x y ≡ Less → AllByRecursion (λ z. R y z ≡ Less) ys
      → AllByRecursion (λ z. R x z ≡ Less) ys
  further x y [] less all = tt
  further x y (z ∷ ys) less all = (o.trans x y z less all.0, further x y ys less all.1)

  pub untied : (x : X) (ys : List X) → AllByRecursion (λ z. R x z ≡ Less) ys → Tied R x ys → ⊥
  untied x [] all tied = tied
  untied x (y ∷ ys) all (inl tie) = (let both = sym all.0 ∙ tie in cc)
  untied x (y ∷ ys) all (inr tied) = untied x ys all.1 tied

  -- the first of one list is not before the first of the other
  not_before : (x y : X) (ys : List X) (n : ℕ) → R x y ≡ Less → InOrder R (y ∷ ys) → Met R n (y ∷ ys) x → ⊥
  not_before x y ys n less order (inl (inl tie)) = (let both = sym less ∙ tie in cc)
  not_before x y ys n less order (inl (inr tied)) = untied x ys (further x y ys less order.0) tied
  not_before x y ys n less order (inr full) =
      (let back : R x y ≡ Greater = o.antisymm x y ∙ ap ordering_reverse full.1.0 in let both = sym less ∙ back in cc)

  tied_first : (c : Ordering) (x y : X) (xs ys : List X) (n : ℕ) → R x y ≡ c → InOrder R (x ∷ xs) → InOrder R (y ∷ ys)
      → Met R n (y ∷ ys) x → Met R n (x ∷ xs) y → R x y ≡ Equal
  tied_first Less x y xs ys n e one other mx my = absurd (not_before x y ys n e other mx)
  tied_first Equal x y xs ys n e one other mx my = e
  tied_first Greater x y xs ys n e one other mx my =
      absurd (not_before y x xs n (o.antisymm y x ∙ ap ordering_reverse e) one my)

  met_later : (x y z : X) (ys : List X) (n : ℕ) → R x y ≡ Equal → R x z ≡ Less → Met R (suc n) (y ∷ ys) z → Met R n ys z
  met_later x y z ys n tie less (inl (inl same)) =
      absurd (let after : R y z ≡ Less = sym (o.congr x y z tie) ∙ less in let back : R y z ≡ Equal = tied_back o z y same in let both = sym after ∙ back in cc)
  met_later x y z ys n tie less (inl (inr tied)) = inl tied
  met_later x y z ys n tie less (inr full) = inr (omega (arith, full.0), full.1.1)

  all_met_later : (x y : X) (xs ys : List X) (n : ℕ) → R x y ≡ Equal → AllByRecursion (λ z. R x z ≡ Less) xs
      → AllByRecursion (Met R (suc n) (y ∷ ys)) xs → AllByRecursion (Met R n ys) xs
  all_met_later x y [] ys n tie less met = tt
  all_met_later x y (z ∷ xs) ys n tie less met =
      (met_later x y z ys n tie less.0 met.0, all_met_later x y xs ys n tie less.1 met.1)

  pub agree : (xs ys : List X) (n : ℕ) → InOrder R xs → InOrder R ys → length xs ≤ n → length ys ≤ n
      → AllByRecursion (Met R n ys) xs → AllByRecursion (Met R n xs) ys → AllZip (λ x y. R x y ≡ Equal) xs ys
  agree [] [] n one other few fewer mx my = tt
  agree [] (y ∷ ys) n one other few fewer mx my = elim my.0 [ inl tied ↦ absurd tied | inr full ↦ absurd (omega (arith, full.0)) ]
  agree (x ∷ xs) [] n one other few fewer mx my = elim mx.0 [ inl tied ↦ absurd tied | inr full ↦ absurd (omega (arith, full.0)) ]
  agree (x ∷ xs) (y ∷ ys) zero one other few fewer mx my = absurd (omega arith)
  agree (x ∷ xs) (y ∷ ys) (suc n) one other few fewer mx my =
      let tie = tied_first (R x y) x y xs ys (suc n) refl one other mx.0 my.0 in (
        tie,
        agree xs ys n one.1 other.1 (omega arith) (omega arith)
            (all_met_later x y xs ys n tie one.0 mx.1) (all_met_later y x ys xs n (tied_back o x y tie) other.0 my.1),
      )
