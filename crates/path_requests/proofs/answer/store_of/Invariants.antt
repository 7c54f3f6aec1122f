-- The store so far and the segments that are left make the store of them all.
use Rattle.std.proofs.Common.{◌≡◌, [], drop}
use Rattle.path_requests.specs.Answer.{with_all_registered}
use Rattle.path_requests.proofs.answer.store_of.Given as goal

abbrev pub invariant-loop-segment : goal.invariant-loop-segment
invariant-loop-segment l =
    with_all_registered l.moment l.store (drop l.segment-index l.segments) ≡ with_all_registered l.moment [] l.segments
