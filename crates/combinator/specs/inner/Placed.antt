-- Lists in a strict order with a limit on their length (words of private functions' contracts).
use Rattle.std.specs.Prelude.{◌≡◌, ◌⊎◌, ℕ, List, [], ◌∷◌, length}
use Rattle.std.specs.List.{AllByRecursion}
use Rattle.std.specs.List.Sorted.{IsPartitionPoint}
use Rattle.std.specs.declared.cmp.Ordering.{Ordering}
use Rattle.std.specs.declared.cmp.Ordering.TheVariants.{Less, Equal, Greater}

-- an element of the list is equal to this one in the order
abbrev pub Tied : {X : Type 0} → (X → X → Ordering) → X → List X → Type 0
Tied R x [] = ⊥
Tied R x (y ∷ ys) = (R x y ≡ Equal) ⊎ Tied R x ys

-- each element comes before all later ones
abbrev pub InOrder : {X : Type 0} → (X → X → Ordering) → List X → Type 0
InOrder R [] = Unit {0}
InOrder R (x ∷ xs) = AllByRecursion (λ y. R x y ≡ Less) xs × InOrder R xs

-- the element belongs at this place: all elements before the place come before it, and all others
-- after it
abbrev pub IsGap : {X : Type 0} → (X → X → Ordering) → X → List X → ℕ → Type 0
IsGap R x xs place = IsPartitionPoint (λ y. R y x ≡ Less) (λ y. R y x ≡ Greater) xs place

-- the element is in the list, or the list is full of elements that come before it
abbrev pub Met : {X : Type 0} → (X → X → Ordering) → ℕ → List X → X → Type 0
Met R n ys x = Tied R x ys ⊎ ((length ys ≡ n) × AllByRecursion (λ y. R y x ≡ Less) ys)
