-- The core ASes so far have their segments.
use Rattle.std.proofs.Common.{◌≡◌, []}
use Rattle.scion_topology.specs.Topology.{IsNetwork}
use Rattle.beacon_lines.specs.inner.Search.{IsGraphOf}
use Rattle.beacon_lines.proofs.Serving.{AreServed}
use Rattle.beacon_lines.proofs.search.SearchGraph.spread.Given as goal

abbrev pub invariant-loop-place : goal.invariant-loop-place
invariant-loop-place l = record {
  second : l.run.second ≡ l.fn.run.second;
  served : IsNetwork l.fn.run.net.network → IsGraphOf l.fn.run.net.network l.self
      → l.fn.run.net.segments ≡ []
      → AreServed l.options l.fn.run.net l.run.net l.place;
}
