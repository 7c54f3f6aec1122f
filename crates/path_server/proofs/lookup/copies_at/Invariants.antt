-- The copies so far are those of the front.
use Rattle.std.proofs.Common.{◌≡◌, take}
use Rattle.path_server.specs.inner.Index.{segments_at}
use Rattle.path_server.proofs.lookup.copies_at.Given as goal

abbrev pub invariant-loop-place : goal.invariant-loop-place
invariant-loop-place l = l.copies.items ≡ segments_at l.segments (take l.place-index l.places)
