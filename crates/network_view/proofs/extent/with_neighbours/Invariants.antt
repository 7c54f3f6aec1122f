-- The ASes that the links so far join to these.
use Rattle.std.proofs.Common.{◌≡◌, take}
use Rattle.std.specs.Prelude.{nat_eq}
use Rattle.std.specs.HashSet.{contains}
use Rattle.network_view.specs.Extent.{with_neighbours}
use Rattle.network_view.proofs.extent.with_neighbours.Given as goal

abbrev pub invariant-loop-link : goal.invariant-loop-link
invariant-loop-link l =
    contains nat_eq l.all ≡ with_neighbours (take l.link-index l.links) (contains nat_eq l.these)
