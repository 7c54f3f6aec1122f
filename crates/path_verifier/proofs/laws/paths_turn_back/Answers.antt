use Rattle.path_verifier.proofs.Turned.{travelled_turned, fields_turned}
use Rattle.path_verifier.proofs.TurnedPath.{path_turned, walk_back}
use Rattle.path_verifier.proofs.TurnedLate.{expiry_turned, too_late}
use Rattle.path_verifier.proofs.laws.paths_turn_back.Goals as goal

pub returns : goal.returns
returns c = record {
  path = path_turned;
  walk = walk_back;
  expiry = expiry_turned;
  late = too_late;
  entries = travelled_turned;
  fields = fields_turned;
}
