-- Two of the interfaces that are left have the same number exactly where two of all have.
use Rattle.std.proofs.Common.{◌≡◌, length}
use Rattle.scion_topology.specs.Building.{numbers_twice}
use Rattle.scion_topology.proofs.view.numbers_twice.Given as goal

abbrev pub invariant-loop-entry : goal.invariant-loop-entry
invariant-loop-entry l = numbers_twice l.rest ≡ numbers_twice l.table

abbrev pub decreases-loop-entry : goal.decreases-loop-entry
decreases-loop-entry l = length l.rest
