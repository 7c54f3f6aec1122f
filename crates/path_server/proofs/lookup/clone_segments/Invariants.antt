-- The copies so far are those of the front.
use Rattle.std.proofs.Common.{◌≡◌, take}
use Rattle.path_server.proofs.lookup.clone_segments.Given as goal

abbrev pub invariant-loop-segment : goal.invariant-loop-segment
invariant-loop-segment l = l.copies.items ≡ take l.segment-index l.segments
