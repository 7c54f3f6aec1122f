use Rattle.scion_topology.proofs.Numbered.{no_zero}
use Rattle.scion_topology.proofs.laws.no_interface_is_zero.Goals as goal

pub returns : goal.returns
returns c = no_zero
