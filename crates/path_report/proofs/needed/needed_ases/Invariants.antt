-- The ASes so far that all walks pass.
use Rattle.std.proofs.Common.{◌≡◌, map, take}
use Rattle.std.specs.Prelude.{filter}
use Rattle.path_report.specs.Pair.{addresses}
use Rattle.path_report.specs.inner.Needed.{is_through}
use Rattle.path_report.proofs.needed.needed_ases.Given as goal

abbrev pub invariant-loop-one : goal.invariant-loop-one
invariant-loop-one l = l.found.items
    ≡ filter (is_through l.pair (map (λ walk. walk.hops.now) l.walks)) (addresses (take l.one-index l.topology.ases))
