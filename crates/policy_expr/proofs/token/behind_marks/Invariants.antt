use Rattle.std.proofs.Common.{◌≡◌, length}
use Rattle.policy_expr.proofs.Cutting.{after_marks}
use Rattle.policy_expr.proofs.token.behind_marks.Given as goal

abbrev pub invariant-loop-byte : goal.invariant-loop-byte
invariant-loop-byte l = after_marks l.text ≡ after_marks l.rest

abbrev pub decreases-loop-byte : goal.decreases-loop-byte
decreases-loop-byte l = length l.rest
