use Rattle.path_server.proofs.Decided.{is_alike-Decides}
use Rattle.path_server.proofs.laws.alike_is_plain.Goals as goal

pub returns : goal.returns
returns c = is_alike-Decides
