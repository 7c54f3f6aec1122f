-- How the parts of a table are joined: which predicates may follow which.
use Rattle.std.specs.Prelude.{◌≡◌, ◌⊎◌, ◌↔◌, ℕ, true, ◌&&◌, List, length}
use Rattle.policy_expr.specs.declared.hop.WalkHop.{WalkHop}
use Rattle.policy_expr.specs.declared.ends.Ends.{Ends}
use Rattle.policy_expr.specs.declared.table.Line.{Line}
use Rattle.policy_expr.specs.Sets.{Has}
use Rattle.policy_expr.specs.Table.{MayFollow, MeetsAt}

-- each predicate of the set `last` may now also be followed by each of the set `first`
pub record Links (old new : List Line) (last first : ℕ) : Type 0 where
  pub count : length new ≡ length old
  pub meets : (k : ℕ) (h : WalkHop) → MeetsAt new k h ↔ MeetsAt old k h
  pub next : (j k : ℕ) → MayFollow new j k ↔ (MayFollow old j k ⊎ (Has last j × Has first k))

-- the ends of one part followed by another
pub record IsThen (front back ends : Ends) : Type 0 where
  pub first : (k : ℕ) → Has ends.first k ↔ (Has front.first k
      ⊎ ((front.has_empty ≡ true) × Has back.first k))
  pub last : (k : ℕ) → Has ends.last k
      ↔ (Has back.last k ⊎ ((back.has_empty ≡ true) × Has front.last k))
  pub empty : ends.has_empty ≡ (front.has_empty && back.has_empty)
