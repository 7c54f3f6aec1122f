-- Sets of allocations, by their numbers from 1 on.
use Rattle.std.specs.Prelude.{◌≡◌, ℕ, ◌≤◌}
use Rattle.refusing.specs.declared.Allocations.{Allocations}
use Rattle.refusing.specs.declared.Allocations.TheVariants.{None, One, AllFrom}

-- the set has the allocation of this number
abbrev pub Includes : Allocations → ℕ → Type 0
Includes None number = ⊥
Includes (One only) number = number ≡ only
Includes (AllFrom first) number = first ≤ number
