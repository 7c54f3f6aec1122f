use Rattle.policy_expr.proofs.Sets.{and_has}
use Rattle.policy_expr.proofs.pred_set.PredSet.and.Goals as goal

pub returns : goal.returns
returns c = λ k. rw (← c.self.view_is, ← c.other.view_is) (and_has c.self.inside.bits c.other.inside.bits k)
