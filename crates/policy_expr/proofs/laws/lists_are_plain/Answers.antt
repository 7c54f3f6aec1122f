use Rattle.policy_expr.proofs.Checked.{plain_of, fault_of_plain}
use Rattle.policy_expr.proofs.laws.lists_are_plain.Goals as goal

pub returns : goal.returns
returns c = λ entries. (plain_of entries, fault_of_plain entries)
