-- What is left holds one twice exactly where all does.
use Rattle.std.proofs.Common.{◌≡◌, length}
use Rattle.scion_topology.specs.Causes.{joins_twice}
use Rattle.scion_topology.proofs.duplicates.joins_one_of_pairs.Given as goal

abbrev pub invariant-loop-link : goal.invariant-loop-link
invariant-loop-link l = joins_twice l.rest ≡ joins_twice l.links

abbrev pub decreases-loop-link : goal.decreases-loop-link
decreases-loop-link l = length l.rest
