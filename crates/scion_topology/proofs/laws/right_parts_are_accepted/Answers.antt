use Rattle.scion_topology.proofs.RightViews.{right_made}
use Rattle.scion_topology.proofs.laws.right_parts_are_accepted.Goals as goal

pub returns : goal.returns
returns c = right_made
