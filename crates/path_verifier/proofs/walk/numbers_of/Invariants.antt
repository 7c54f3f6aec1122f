-- The numbers so far are those of the first hops.
use Rattle.std.proofs.Common.{◌≡◌, map, take}
use Rattle.path_verifier.proofs.walk.numbers_of.Given as goal

abbrev pub invariant-loop-hop : goal.invariant-loop-hop
invariant-loop-hop l = l.numbers.items ≡ map (λ hop. hop.ia) (take l.hop-index l.hops)
