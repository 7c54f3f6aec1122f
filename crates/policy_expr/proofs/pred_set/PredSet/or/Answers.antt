use Rattle.policy_expr.proofs.Sets.{or_has}
use Rattle.policy_expr.proofs.pred_set.PredSet.or.Goals as goal

pub returns : goal.returns
returns c = λ k. rw (← c.self.view_is, ← c.other.view_is) (or_has c.self.inside.bits c.other.inside.bits k)
