use Rattle.policy_expr.proofs.Sets.{none_has}
use Rattle.policy_expr.proofs.pred_set.PredSet.none.Goals as goal

pub returns : goal.returns
returns c = none_has
