use Rattle.scion_topology.proofs.Shown.{shows_both_ends}
use Rattle.scion_topology.proofs.laws.links_show_both_ends.Goals as goal

pub returns : goal.returns
returns c = shows_both_ends
