use Rattle.scion_topology.proofs.AuthenticHops.{Decides-is_authentic}
use Rattle.scion_topology.proofs.laws.authentic_by_test.Goals as goal

pub returns : goal.returns
returns c = Decides-is_authentic
