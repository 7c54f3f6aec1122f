use Rattle.std.proofs.Common.{subst}
use Rattle.scion_topology.specs.View.{IsRight}
use Rattle.scion_topology.proofs.view.RouterView.known.Goals as goal

pub returns : goal.returns
returns c = subst IsRight c.self.view_is c.self.invariant
