use Rattle.std.proofs.Common.{◌≡◌, ◌++◌, length}
use Rattle.policy_expr.specs.Tokens.{tokens}
use Rattle.policy_expr.proofs.room.fill.Given as goal

-- the tokens in the room and those of the rest are those of the text
abbrev pub invariant-loop-rest : goal.invariant-loop-rest
invariant-loop-rest l = tokens l.fn.text ≡ l.room.items ++ tokens l.rest

abbrev pub decreases-loop-rest : goal.decreases-loop-rest
decreases-loop-rest l = length l.rest
