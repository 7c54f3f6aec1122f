-- What is left holds one twice exactly where all does.
use Rattle.std.proofs.Common.{◌≡◌, length}
use Rattle.scion_topology.specs.Causes.{lists_twice}
use Rattle.scion_topology.proofs.duplicates.lists_one_of_pairs.Given as goal

abbrev pub invariant-loop-one : goal.invariant-loop-one
invariant-loop-one l = lists_twice l.rest ≡ lists_twice l.ases

abbrev pub decreases-loop-one : goal.decreases-loop-one
decreases-loop-one l = length l.rest
