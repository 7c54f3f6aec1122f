-- The law, from the lemmas.
use Rattle.policy_expr.proofs.Found.{sequence_is_spelled, spelled_is_sequence}
use Rattle.policy_expr.proofs.laws.reading_is_the_grammar.Goals as goal

pub returns : goal.returns
returns c = λ text tree. (sequence_is_spelled text tree, λ both. spelled_is_sequence text tree both.0 both.1)
