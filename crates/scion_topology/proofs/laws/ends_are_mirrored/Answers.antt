use Rattle.scion_topology.proofs.Ends.{far_is_shown, near_is_shown}
use Rattle.scion_topology.proofs.laws.ends_are_mirrored.Goals as goal

pub returns : goal.returns
returns c = record { alike = far_is_shown; there = near_is_shown }
