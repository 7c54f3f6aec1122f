-- As many sets so far, and the one that comes next.
use Rattle.std.proofs.Common.{◌≡◌, map}
use Rattle.std.specs.Prelude.{nat_eq}
use Rattle.std.specs.HashSet.{contains}
use Rattle.network_view.specs.Extent.{within}
use Rattle.network_view.specs.Layers.{nearest}
use Rattle.network_view.proofs.layers.nearest.Given as goal

abbrev pub invariant-loop-farther : goal.invariant-loop-farther
invariant-loop-farther l = record {
  sets : map (contains nat_eq) l.sets.items ≡ nearest l.links (contains nat_eq l.fn.these) l._farther;
  near : contains nat_eq l.near ≡ within l.links l._farther (contains nat_eq l.fn.these);
}
