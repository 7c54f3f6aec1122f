use Rattle.policy_expr.proofs.Checked.{read_judged}
use Rattle.policy_expr.proofs.acl.Acl.read_lawful.Goals as goal

pub invariant_of-result : goal.invariant_of-result
invariant_of-result g c = (read_judged c.args.text.now _ c.requires (rw c.texts.ensures at c.in_ok-entries.ensures)).0

pub returns : goal.returns
returns g c = (read_judged c.args.text.now _ c.requires (rw c.texts.ensures at c.in_ok-entries.ensures)).1
