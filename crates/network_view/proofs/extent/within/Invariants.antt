-- As many links so far.
use Rattle.std.proofs.Common.{◌≡◌}
use Rattle.std.specs.Prelude.{nat_eq}
use Rattle.std.specs.HashSet.{contains}
use Rattle.network_view.specs.Extent.{within}
use Rattle.network_view.proofs.extent.within.Given as goal

abbrev pub invariant-loop-hop : goal.invariant-loop-hop
invariant-loop-hop l = contains nat_eq l.found ≡ within l.links l._hop (contains nat_eq l.fn.these)
