-- What is left has two hops of one AS exactly where all have.
use Rattle.std.proofs.Common.{◌≡◌, length}
use Rattle.path_verifier.specs.inner.Twice.{names_twice}
use Rattle.path_verifier.proofs.walk.has_pair_of_one_as.Given as goal

abbrev pub invariant-loop-hop : goal.invariant-loop-hop
invariant-loop-hop l = names_twice l.rest ≡ names_twice l.hops

abbrev pub decreases-loop-hop : goal.decreases-loop-hop
decreases-loop-hop l = length l.rest
