-- What is left is in order, and has doubles exactly where all has.
use Rattle.std.proofs.Common.{◌≡◌, length}
use Rattle.std.specs.List.Sorted.{IsNonDecreasing}
use Rattle.doubles.specs.Doubles.{has_double}
use Rattle.doubles.proofs.has_neighbours.Given as goal

abbrev pub invariant-loop-number : goal.invariant-loop-number
invariant-loop-number l = IsNonDecreasing l.rest × (has_double l.rest ≡ has_double l.numbers)

abbrev pub decreases-loop-number : goal.decreases-loop-number
decreases-loop-number l = length l.rest
