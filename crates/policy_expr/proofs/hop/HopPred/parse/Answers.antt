use Rattle.std.proofs.Common.{◌∙◌}
use Rattle.policy_expr.proofs.Spelling.{answer_spelled, predicate_read}
use Rattle.policy_expr.proofs.hop.HopPred.parse.Goals as goal

pub returns-clause-found : goal.returns-clause-found
returns-clause-found c = answer_spelled _ _ c.read_predicate.ensures

pub returns-clause-only : goal.returns-clause-only
returns-clause-only c = λ pred spelled. c.read_predicate.ensures ∙ predicate_read _ pred spelled
