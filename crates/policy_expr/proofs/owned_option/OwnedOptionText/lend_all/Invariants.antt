-- The options so far are those of the front.
use Rattle.std.proofs.Common.{◌≡◌, take}
use Rattle.policy_expr.proofs.owned_option.OwnedOptionText.lend_all.Given as goal

abbrev pub invariant-loop-option : goal.invariant-loop-option
invariant-loop-option l = l.lent.items ≡ take l.option-index l.options
