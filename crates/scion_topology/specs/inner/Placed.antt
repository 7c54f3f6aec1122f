-- The places of ASes' indexes in a list. No clause of a public call cites it.
use Rattle.std.specs.Prelude.{◌≡◌, ℕ, List, Option, Some, option_map, slice_get, slice_set}
use Rattle.scion_topology.specs.declared.index.AsIndex.{AsIndex}

-- `place` gives the place of each index by its AS, and the index at that place is of that AS
pub record AreOwn (list : List AsIndex) (place : ℕ → Option ℕ) : Type 0 where
  pub own : (k : ℕ) (index : AsIndex) → slice_get list k ≡ Some index → place index.ia ≡ Some k
  pub found : (x k : ℕ) → place x ≡ Some k
      → option_map (λ index. index.ia) (slice_get list k) ≡ Some x

-- only the index at this place has changed; it is still of the same AS
abbrev pub IsChanged : (change : (AsIndex → AsIndex → Type 0)) (at : ℕ) (old new : List AsIndex)
    → Type 0
IsChanged change at old new = (index : AsIndex) → slice_get old at ≡ Some index
    → (after : AsIndex) × (new ≡ slice_set old at after) × (after.ia ≡ index.ia)
    × change index after
