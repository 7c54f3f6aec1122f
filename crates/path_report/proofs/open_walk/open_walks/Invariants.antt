-- The open walks so far are those of the walks so far.
use Rattle.std.proofs.Common.{◌≡◌, map, take, All}
use Rattle.path_report.specs.Paths.{open_walks}
use Rattle.path_report.specs.inner.Places.{HasPlaces, IsCrossing}
use Rattle.path_report.proofs.open_walk.open_walks.Given as goal

abbrev pub invariant-loop-place : goal.invariant-loop-place
invariant-loop-place l = record {
  walks : map (λ walk. walk.hops.now) l.found.items ≡ open_walks l.topology.links (take l.place l.walks);
  known : All (IsCrossing l.topology.links) l.known.items;
  places : All (HasPlaces l.topology.links) l.found.items;
}
