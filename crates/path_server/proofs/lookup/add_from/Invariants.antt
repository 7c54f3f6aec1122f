-- What was added so far is what the front has.
use Rattle.std.proofs.Common.{◌≡◌, ◌++◌, take}
use Rattle.std.specs.List.{flat_map}
use Rattle.path_server.specs.inner.Index.{core_places}
use Rattle.path_server.specs.inner.Blocks.{joined}
use Rattle.path_server.proofs.lookup.add_from.Given as goal

abbrev pub invariant-loop-first : goal.invariant-loop-first
invariant-loop-first l =
    l.places.items ≡ l.fn.places.items ++ flat_map (core_places l.segments (joined l.some) l.now l.last)
    (take l.first-index l.firsts)
