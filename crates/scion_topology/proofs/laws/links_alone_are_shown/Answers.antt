use Rattle.scion_topology.proofs.Shown.{are_joined, is_end_of}
use Rattle.scion_topology.proofs.laws.links_alone_are_shown.Goals as goal

pub returns : goal.returns
returns c = record { far_ends = are_joined; interfaces = is_end_of }
