use Rattle.scion_topology.proofs.Shown.{right_as}
use Rattle.scion_topology.proofs.laws.found_as_is_right.Goals as goal

pub returns : goal.returns
returns c = right_as
