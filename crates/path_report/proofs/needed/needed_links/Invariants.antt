-- The links so far that all walks cross.
use Rattle.std.proofs.Common.{◌≡◌, map, take}
use Rattle.std.specs.Prelude.{filter}
use Rattle.path_report.specs.declared.open_walk.OpenWalk.{OpenWalk}
use Rattle.path_report.specs.inner.Needed.{is_crossed}
use Rattle.path_report.proofs.needed.needed_links.Given as goal

abbrev pub invariant-loop-place : goal.invariant-loop-place
invariant-loop-place l = l.found.items
    ≡ filter (is_crossed (map (λ (walk : OpenWalk). walk.hops.now) l.walks)) (take l.place l.topology.links)
