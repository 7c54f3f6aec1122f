-- Sets of numbers of predicates, as the bits of a number.
use Rattle.std.specs.Prelude.{◌≢◌, ◌↔◌, ℕ, ◌<◌}
use Rattle.policy_expr.specs.Sets.{Has}

-- the set is split into one of its predicates and all others
pub record IsSplit (set number others : ℕ) : Type 0 where
  pub there : Has set number
  pub rest : (k : ℕ) → Has others k ↔ (Has set k × (k ≢ number))
  pub smaller : others < set
