use Rattle.scion_topology.proofs.RightViews.{made_right}
use Rattle.scion_topology.proofs.laws.view_shows_its_parts.Goals as goal

pub returns : goal.returns
returns c = made_right
