-- The places so far are those that the hops so far cross.
use Rattle.std.proofs.Common.{◌≡◌, All, take}
use Rattle.path_report.specs.inner.Places.{IsCrossing, places_crossed}
use Rattle.path_report.proofs.open_walk.places_crossed.Given as goal

abbrev pub invariant-loop-number : goal.invariant-loop-number
invariant-loop-number l = record {
  known : All (IsCrossing l.topology.links) l.known.items;
  places : l.places.items ≡ places_crossed l.topology.links (take l.number l.walk);
}
