-- The paths so far are those of the front.
use Rattle.std.proofs.Common.{◌≡◌, map, take}
use Rattle.daemon_cache.specs.inner.Kept.{path_in}
use Rattle.daemon_cache.proofs.entry.Entry.answer.Given as goal

abbrev pub invariant-loop-kept : goal.invariant-loop-kept
invariant-loop-kept l = l.paths.items ≡ map (path_in l.self-inside.set) (take l.kept-index l.self-inside.paths.items)
