-- Taking an element into a list in strict order that is cut to a limit.
use Rattle.std.proofs.Common.{◌≡◌, ℕ, zero, suc, ◌+◌, ◌<◌, ◌≤◌, List, [], ◌∷◌, length, take, insert, refl, sym, ap, subst, ◌∙◌, inl, inr, arith}
use Rattle.std.specs.List.{AllByRecursion}
use Rattle.std.specs.Cmp.{IsTotalOrder}
use Rattle.std.specs.Ordering.{ordering_reverse}
use Rattle.std.specs.declared.cmp.Ordering.{Ordering}
use Rattle.std.specs.declared.cmp.Ordering.TheVariants.{Less}
use Rattle.std.proofs.lemmas.Cmp.{tied_itself, alike_right}
use Rattle.combinator.specs.inner.Placed.{Tied, InOrder, IsGap, Met}
use Rattle.combinator.proofs.Tied.{further}

-- the element belongs at this place: those before it stand before, those from there on behind
abbrev pub Placed : {X : Type 0} → (X → X → Ordering) → X → ℕ → List X → Type 0
Placed R x zero xs = AllByRecursion (λ y. R x y ≡ Less) xs
Placed R x (suc p) [] = ⊥
Placed R x (suc p) (y ∷ ys) = (R y x ≡ Less) × Placed R x p ys

all_taken : {X : Type 0} (P : X → Type 0) (n : ℕ) (xs : List X) → AllByRecursion P xs → AllByRecursion P (take n xs)
all_taken P zero [] all = tt
all_taken P zero (x ∷ xs) all = tt
all_taken P (suc n) [] all = tt
all_taken P (suc n) (x ∷ xs) all = (all.0, all_taken P n xs all.1)

-- the list with the element at a place, by recursion
abbrev pub put : {X : Type 0} → List X → ℕ → X → List X
put xs zero x = x ∷ xs
put [] (suc p) x = x ∷ []
put (y ∷ ys) (suc p) x = y ∷ put ys p x

pub put_insert : {X : Type 0} (xs : List X) (p : ℕ) (x : X) → insert xs p x ≡ put xs p x
put_insert [] zero x = refl
put_insert [] (suc p) x = refl
put_insert (y ∷ ys) zero x = refl
put_insert (y ∷ ys) (suc p) x = ap (λ zs. y ∷ zs) (put_insert ys p x)

pub length_put : {X : Type 0} (xs : List X) (p : ℕ) (x : X) → length (put xs p x) ≡ length xs + 1
length_put [] zero x = refl
length_put [] (suc p) x = refl
length_put (y ∷ ys) zero x = omega arith
length_put (y ∷ ys) (suc p) x = let rest = length_put ys p x in omega arith

length_taken : {X : Type 0} (n : ℕ) (xs : List X) → n ≤ length xs → length (take n xs) ≡ n
length_taken zero [] within = refl
length_taken zero (x ∷ xs) within = refl
length_taken (suc n) [] within = absurd (omega arith)
length_taken (suc n) (x ∷ xs) within = let rest = length_taken n xs (omega arith) in omega arith

all_put : {X : Type 0} (P : X → Type 0) (xs : List X) (p : ℕ) (x : X) → AllByRecursion P xs → P x
    → AllByRecursion P (put xs p x)
all_put P xs zero x all here = (here, all)
all_put P [] (suc p) x all here = (here, tt)
all_put P (y ∷ ys) (suc p) x all here = (all.0, all_put P ys p x all.1 here)

module _ {X : Type 0} (R : X → X → Ordering) (o : IsTotalOrder R) where
  pub placed_of : (p : ℕ) (xs : List X) (x : X) → InOrder R xs → p ≤ length xs → IsGap R x xs p → Placed R x p xs
  placed_of zero [] x order within gap = tt
  placed_of zero (y ∷ ys) x order within gap =
      let less : R x y ≡ Less =
      o.antisymm x y ∙ ap ordering_reverse (gap.1 0 y (omega arith) (omega arith)) in (less, further R o x y ys less order.0)
  placed_of (suc p) [] x order within gap = absurd (omega arith)
  placed_of (suc p) (y ∷ ys) x order within gap = (
    gap.0 0 y (omega arith) (omega arith),
    placed_of p ys x order.1 (omega arith)
        (λ k d from less. gap.0 (suc k) d (omega arith) (omega arith), λ k d from less. gap.1 (suc k) d (omega arith) (omega arith)),
  )

  order_put : (xs : List X) (p : ℕ) (x : X) → InOrder R xs → Placed R x p xs → InOrder R (put xs p x)
  order_put xs zero x order placed = (placed, order)
  order_put [] (suc p) x order placed = absurd placed
  order_put (y ∷ ys) (suc p) x order placed =
      (all_put (λ z. R y z ≡ Less) ys p x order.0 placed.0, order_put ys p x order.1 placed.1)

  pub order_inserted : (xs : List X) (p : ℕ) (x : X) → InOrder R xs → Placed R x p xs → InOrder R (insert xs p x)
  order_inserted xs p x order placed = subst (λ ys. InOrder R ys) (sym (put_insert xs p x))
      (order_put xs p x order placed)

  order_taken : (n : ℕ) (xs : List X) → InOrder R xs → InOrder R (take n xs)
  order_taken zero [] order = tt
  order_taken zero (x ∷ xs) order = tt
  order_taken (suc n) [] order = tt
  order_taken (suc n) (x ∷ xs) order = (all_taken (λ z. R x z ≡ Less) n xs order.0, order_taken n xs order.1)

  tied_put : (z : X) (xs : List X) (p : ℕ) (x : X) → Tied R z xs → Tied R z (put xs p x)
  tied_put z xs zero x tied = inr tied
  tied_put z [] (suc p) x tied = absurd tied
  tied_put z (y ∷ ys) (suc p) x (inl tie) = inl tie
  tied_put z (y ∷ ys) (suc p) x (inr tied) = inr (tied_put z ys p x tied)

  new_put : (xs : List X) (p : ℕ) (x : X) → Tied R x (put xs p x)
  new_put xs zero x = inl (tied_itself o x)
  new_put [] (suc p) x = inl (tied_itself o x)
  new_put (y ∷ ys) (suc p) x = inr (new_put ys p x)

  before_tied : (w z : X) (ws : List X) → AllByRecursion (λ y. R w y ≡ Less) ws → Tied R z ws → R w z ≡ Less
  before_tied w z [] all tied = absurd tied
  before_tied w z (y ∷ ys) all (inl tie) = alike_right o z y w tie ∙ all.0
  before_tied w z (y ∷ ys) all (inr tied) = before_tied w z ys all.1 tied

  -- what is in a list in order is in its front, or the front is full before it
  cut_met : (n : ℕ) (zs : List X) (z : X) → InOrder R zs → Tied R z zs → Met R n (take n zs) z
  cut_met n [] z order tied = absurd tied
  cut_met zero (w ∷ ws) z order tied = inr (refl, tt)
  cut_met (suc n) (w ∷ ws) z order (inl tie) = inl (inl tie)
  cut_met (suc n) (w ∷ ws) z order (inr tied) = elim (cut_met n ws z order.1 tied) [
    | inl there ↦ inl (inr there)
    | inr full ↦ inr ((let count = full.0 in omega arith), (before_tied w z ws order.0 tied, full.1))
  ]

  before_placed : (xs : List X) (p : ℕ) (x z : X) → Placed R x p xs → p < length xs
      → AllByRecursion (λ y. R y z ≡ Less) xs → R x z ≡ Less
  before_placed [] p x z placed within all = absurd (omega arith)
  before_placed (y ∷ ys) zero x z placed within all = o.trans x y z placed.0 all.0
  before_placed (y ∷ ys) (suc p) x z placed within all = before_placed ys p x z placed.1 (omega arith) all.1

  all_before : (xs : List X) (p : ℕ) (x : X) → Placed R x p xs → length xs ≤ p → AllByRecursion (λ y. R y x ≡ Less) xs
  all_before [] p x placed past = tt
  all_before (y ∷ ys) zero x placed past = absurd (omega arith)
  all_before (y ∷ ys) (suc p) x placed past = (placed.0, all_before ys p x placed.1 (omega arith))

  module _ (n : ℕ) (xs new : List X) (p : ℕ) (x : X) (order : InOrder R xs) (placed : Placed R x p xs) where
    -- the element stands behind all, and there is no room for it
    pub met_behind : length xs ≤ n → p ≤ length xs → n ≤ p → Met R n xs x
    met_behind few within past = inr (omega arith, all_before xs p x placed (omega arith))

    module _ (is : new ≡ take n (insert xs p x)) where
      as_put : new ≡ take n (put xs p x)
      as_put = is ∙ ap (take n) (put_insert xs p x)

      pub order_new : InOrder R new
      order_new = subst (λ ys. InOrder R ys) (sym as_put) (order_taken n (put xs p x) (order_put xs p x order placed))

      pub met_new : Met R n new x
      met_new = subst (λ ys. Met R n ys x) (sym as_put)
          (cut_met n (put xs p x) x (order_put xs p x order placed) (new_put xs p x))

      pub met_still : p < n → (z : X) → Met R n xs z → Met R n new z
      met_still room z (inl tied) = subst (λ ys. Met R n ys z) (sym as_put)
          (cut_met n (put xs p x) z (order_put xs p x order placed) (tied_put z xs p x tied))
      met_still room z (inr full) =
          let count = full.0 in
          let long = length_put xs p x in
          subst (λ ys. Met R n ys z) (sym as_put)
          (inr (length_taken n (put xs p x) (omega arith), all_taken (λ y. R y z ≡ Less) n (put xs p x) (all_put (λ y. R y z ≡ Less) xs p x full.1 (before_placed xs p x z placed (omega arith) full.1))))
