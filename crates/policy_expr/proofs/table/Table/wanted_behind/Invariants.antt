use Rattle.std.proofs.Common.{ℕ, ◌<◌}
use Rattle.policy_expr.specs.Sets.{Has}
use Rattle.policy_expr.proofs.Passes.{WantsSoFar}
use Rattle.policy_expr.proofs.table.Table.wanted_behind.Given as goal

abbrev pub invariant-loop-number : goal.invariant-loop-number
invariant-loop-number g l = WantsSoFar l.self.lines.items l.fn.wanted l.hop l.rest l.next

-- a set without one of its predicates is a smaller number
abbrev pub decreases-loop-number : goal.decreases-loop-number
decreases-loop-number g l = l.rest

-- the low half was visited
abbrev pub invariant-loop-number-2 : goal.invariant-loop-number-2
invariant-loop-number-2 g l = record {
  so_far : WantsSoFar l.self.lines.items l.fn.wanted l.hop l.rest l.next;
  low : (k : ℕ) → k < 64 → Has l.rest k → ⊥;
}

abbrev pub decreases-loop-number-2 : goal.decreases-loop-number-2
decreases-loop-number-2 g l = l.rest
