use Rattle.scion_topology.proofs.RightViews.{found_by_number}
use Rattle.scion_topology.proofs.laws.interfaces_named_once.Goals as goal

pub returns : goal.returns
returns c = found_by_number
