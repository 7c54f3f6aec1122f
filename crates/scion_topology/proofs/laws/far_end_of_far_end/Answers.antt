use Rattle.scion_topology.proofs.Ends.{far_back}
use Rattle.scion_topology.proofs.laws.far_end_of_far_end.Goals as goal

pub returns : goal.returns
returns c = far_back
