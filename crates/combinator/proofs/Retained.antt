-- What a test keeps of a list.
use Rattle.std.proofs.Common.{◌≡◌, zero, suc, Bool, true, false, List, [], ◌∷◌, length, Contains, refl, sym, subst, arith}
use Rattle.std.specs.Prelude.{◌↔◌, IsTrue}
use Rattle.std.specs.List.{items_where_true}
use Rattle.std.specs.List.Retain.{IsFiltered, ReturnsInTurn}

later : {X : Type 0} (y : X) (xs : List X) (x : X) → Contains xs x → Contains (y ∷ xs) x
later y xs x there = (suc there.0, (let within = there.1 in omega (arith, within)), there.2)

only : {X : Type 0} (bs : List Bool) (xs : List X) (x : X) → Contains (items_where_true bs xs) x → Contains xs x
only [] xs x there = absurd (let within = there.1 in omega (arith, within))
only (b ∷ bs) [] x there = there
only (true ∷ bs) (y ∷ xs) x (zero, within, at) = (0, omega arith, at)
only (true ∷ bs) (y ∷ xs) x (suc k, within, at) = later y xs x (only bs xs x (k, omega (arith, within), at))
only (false ∷ bs) (y ∷ xs) x there = later y xs x (only bs xs x there)

module _ {X F : Type 0} (R : F → X → Bool → F → Type 0) (P : X → Type 0) (f : F)
    (says : (x : X) (b : Bool) (f' : F) → R f x b f' → (IsTrue b ↔ P x) × (f' ≡ f)) where
  kept : (bs : List Bool) (xs : List X) (p q : F) → p ≡ f → length bs ≡ length xs → ReturnsInTurn R p bs xs q
      → (x : X) → Contains xs x → P x → Contains (items_where_true bs xs) x
  kept [] [] p q same count turn x there here = there
  kept [] (y ∷ xs) p q same count turn x there here = absurd (omega (arith, count))
  kept (b ∷ bs) [] p q same count turn x there here = there
  kept (b ∷ bs) (y ∷ xs) p q same count turn x (zero, within, at) here =
      first b bs xs (let answer = (says y b turn.0 (subst (λ (g : F). R g y b turn.0) same turn.1)).0 in answer.1 (subst P (sym at) here)) at
    where
      first : (b : Bool) (bs : List Bool) (xs : List X) → IsTrue b → y ≡ x → Contains (items_where_true (b ∷ bs) (y ∷ xs)) x
      first true bs xs is same = (0, omega arith, same)
      first false bs xs is same = absurd cc
  kept (b ∷ bs) (y ∷ xs) p q same count turn x (suc k, within, at) here =
      more b bs xs
      (kept bs xs turn.0 q (says y b turn.0 (subst (λ (g : F). R g y b turn.0) same turn.1)).1 (omega (arith, count)) turn.2
      x (k, omega (arith, within), at) here)
    where
      more : (b : Bool) (bs : List Bool) (xs : List X) → Contains (items_where_true bs xs) x → Contains (items_where_true (b ∷ bs) (y ∷ xs)) x
      more true bs xs there = later y (items_where_true bs xs) x there
      more false bs xs there = there

  -- what is kept was there, and all that passes is kept
  pub kept_was_there : (xs ys : List X) → IsFiltered R f xs ys → (x : X) → Contains ys x → Contains xs x
  kept_was_there xs ys filtered x there =
      only filtered.0 xs x (subst (λ (zs : List X). Contains zs x) filtered.4 there)

  pub all_that_pass : (xs ys : List X) → IsFiltered R f xs ys → (x : X) → Contains xs x → P x → Contains ys x
  all_that_pass xs ys filtered x there here =
      subst (λ (zs : List X). Contains zs x) (sym filtered.4)
      (kept filtered.0 xs f filtered.1 refl filtered.2 filtered.3 x there here)
