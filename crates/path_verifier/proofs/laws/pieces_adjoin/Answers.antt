use Rattle.path_verifier.proofs.Lengths.{path_is_short, pieces_adjoin}
use Rattle.path_verifier.proofs.laws.pieces_adjoin.Goals as goal

pub returns : goal.returns
returns c = record { most = path_is_short; kinds = pieces_adjoin }
