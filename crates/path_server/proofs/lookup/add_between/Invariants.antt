-- What was added so far is what the front has.
use Rattle.std.proofs.Common.{◌≡◌, ◌++◌, take}
use Rattle.std.specs.List.{flat_map}
use Rattle.path_server.specs.inner.Index.{core_places}
use Rattle.path_server.specs.inner.Blocks.{joined}
use Rattle.path_server.proofs.lookup.add_between.Given as goal

abbrev pub invariant-loop-last : goal.invariant-loop-last
invariant-loop-last l = l.places.items ≡ l.fn.places.items
    ++ flat_map (λ last. flat_map (core_places l.segments (joined l.blocks) l.now last) l.firsts) (take l.last-index l.lasts)
