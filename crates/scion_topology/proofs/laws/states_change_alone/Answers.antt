use Rattle.scion_topology.proofs.Lasting.{same_ases, still_there}
use Rattle.scion_topology.proofs.laws.states_change_alone.Goals as goal

pub returns : goal.returns
returns c = record {
  ases = λ n m up x y. same_ases up x y n m;
  interfaces = λ n m up x y ia number. still_there up x y n m ia number;
}
