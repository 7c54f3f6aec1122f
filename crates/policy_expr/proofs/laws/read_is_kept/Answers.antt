use Rattle.policy_expr.proofs.Kept.{predicate_small}
use Rattle.policy_expr.proofs.Sequences.{read_sequence}
use Rattle.policy_expr.proofs.laws.read_is_kept.Goals as goal

pub returns : goal.returns
returns c = record { sequence = read_sequence; predicate = predicate_small }
