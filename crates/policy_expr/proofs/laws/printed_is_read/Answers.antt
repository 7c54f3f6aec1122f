use Rattle.policy_expr.proofs.Sequences.{sequence_again}
use Rattle.policy_expr.proofs.Texts.{predicate_again}
use Rattle.policy_expr.proofs.laws.printed_is_read.Goals as goal

pub returns : goal.returns
returns c = record { sequence = sequence_again; predicate = predicate_again }
