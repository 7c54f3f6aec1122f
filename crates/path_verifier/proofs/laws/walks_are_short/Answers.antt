use Rattle.path_verifier.proofs.Lengths.{walk_is_long, walk_is_short}
use Rattle.path_verifier.proofs.laws.walks_are_short.Goals as goal

pub returns : goal.returns
returns c = record { least = walk_is_long; most = walk_is_short }
