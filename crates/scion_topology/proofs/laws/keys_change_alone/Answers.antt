use Rattle.scion_topology.proofs.Lasting.{named_renewed, named_still, same_links, same_interfaces}
use Rattle.scion_topology.proofs.laws.keys_change_alone.Goals as goal

pub returns : goal.returns
returns c = record {
  own = λ n m x key one. named_renewed x key n m one;
  others = λ n m x ia key. named_still x ia key n m;
  links = λ n m x key. same_links x key n m;
  interfaces = λ n m x ia number key. same_interfaces x key n m ia number;
}
