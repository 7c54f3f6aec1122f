-- The paths so far are those of the front, with their walks.
use Rattle.std.proofs.Common.{◌≡◌, map, take}
use Rattle.std.specs.Prelude.{All}
use Rattle.daemon_cache.specs.inner.Kept.{HasItsWalk, path_in}
use Rattle.daemon_cache.proofs.entry.kept_paths.Given as goal

abbrev pub invariant-loop-path : goal.invariant-loop-path
invariant-loop-path l =
    (map (path_in l.set) l.kept.items ≡ take l.path-index l.paths) × All (HasItsWalk l.set) l.kept.items
