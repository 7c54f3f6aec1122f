use Rattle.scion_topology.proofs.Ends.{owner_below}
use Rattle.scion_topology.proofs.laws.owner_is_a_router.Goals as goal

pub returns : goal.returns
returns c = owner_below
