use Rattle.std.proofs.Common.{◌≡◌, length}
use Rattle.policy_expr.specs.inner.Views.{gives, remaining}
use Rattle.policy_expr.proofs.reader.Reader.read.Given as goal

-- the rest of the tokens gives what all of them give
abbrev pub invariant-loop-token : goal.invariant-loop-token
invariant-loop-token g l = gives l.initial.self (remaining l.fn.all) ≡ gives l.self (remaining l.rest)

abbrev pub decreases-loop-token : goal.decreases-loop-token
decreases-loop-token g l = length (remaining l.rest)
