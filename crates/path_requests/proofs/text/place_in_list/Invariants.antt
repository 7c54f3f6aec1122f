-- The segment is none of the front.
use Rattle.std.proofs.Common.{◌≡◌, ◌+◌, drop}
use Rattle.path_requests.specs.Text.{place_in_list}
use Rattle.path_requests.proofs.text.place_in_list.Given as goal

abbrev pub invariant-loop-i : goal.invariant-loop-i
invariant-loop-i l = l.i + place_in_list l.segment (drop l.i l.segments) ≡ place_in_list l.segment l.segments
