-- What was added so far is what the blocks so far have.
use Rattle.std.proofs.Common.{◌≡◌, ◌++◌, take}
use Rattle.path_server.specs.inner.Index.{ends_number, live_places}
use Rattle.path_server.specs.inner.Blocks.{joined}
use Rattle.path_server.proofs.lookup.add_live_between.Given as goal

abbrev pub invariant-loop-block : goal.invariant-loop-block
invariant-loop-block l = l.places.items ≡ l.fn.places.items
    ++ live_places l.segments (joined (take l.block-index l.some)) l.now (ends_number l.low) (ends_number l.high)
