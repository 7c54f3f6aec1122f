use Rattle.policy_expr.proofs.Linking.{LinksSoFar}
use Rattle.policy_expr.proofs.table.link.Given as goal

abbrev pub invariant-loop-number : goal.invariant-loop-number
invariant-loop-number l = LinksSoFar l.fn.lines l.fn.last l.first l.rest l.lines

-- a set without one of its predicates is a smaller number
abbrev pub decreases-loop-number : goal.decreases-loop-number
decreases-loop-number l = l.rest
