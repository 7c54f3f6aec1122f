use Rattle.scion_topology.proofs.Lasting.{linked_network, rotated_network}
use Rattle.scion_topology.proofs.laws.networks_outlast_changes.Goals as goal

pub returns : goal.returns
returns c = record {
  links = λ n m up x y. linked_network up x y n m;
  keys = λ n m x key. rotated_network x key n m;
}
