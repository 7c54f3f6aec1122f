use Rattle.std.proofs.Common.{refl}
use Rattle.path_segment.proofs.Chained.{beta_of-next, beta_of-with_last}
use Rattle.path_segment.proofs.laws.accumulators_are_chained.Goals as goal

pub returns : goal.returns
returns c = record { first = λ chain. refl; next = beta_of-next; kept = beta_of-with_last }
