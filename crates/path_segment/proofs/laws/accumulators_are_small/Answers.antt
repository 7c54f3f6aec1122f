use Rattle.path_segment.proofs.Chained.{beta_of-lt}
use Rattle.path_segment.proofs.laws.accumulators_are_small.Goals as goal

pub returns : goal.returns
returns c = beta_of-lt
