-- What was added so far is what the front has.
use Rattle.std.proofs.Common.{◌≡◌, ◌++◌, take, filter}
use Rattle.path_segment.specs.Tests.{is_live}
use Rattle.path_server.specs.inner.Index.{passes_at}
use Rattle.path_server.proofs.lookup.add_live.Given as goal

abbrev pub invariant-loop-place : goal.invariant-loop-place
invariant-loop-place l =
    l.places.items ≡ l.fn.places.items ++ filter (passes_at (is_live l.now) l.segments) (take l.place-index l.some)
