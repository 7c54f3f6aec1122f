use Rattle.policy_expr.proofs.Fewest.{fewest}
use Rattle.policy_expr.proofs.laws.printed_has_fewest_parentheses.Goals as goal

pub returns : goal.returns
returns c = fewest
