use Rattle.policy_expr.proofs.Passes.{NoneSoFar}
use Rattle.policy_expr.proofs.table.Table.does_one_match.Given as goal

abbrev pub invariant-loop-number : goal.invariant-loop-number
invariant-loop-number g l = NoneSoFar l.self.lines.items l.fn.wanted l.hop l.rest

-- a set without one of its predicates is a smaller number
abbrev pub decreases-loop-number : goal.decreases-loop-number
decreases-loop-number g l = l.rest
