-- The least so far is the earliest expiry of the front.
use Rattle.std.proofs.Common.{take}
use Rattle.path_server.specs.Expiry.{IsEarliestExpiry}
use Rattle.path_server.proofs.expiry.least_expiry_of.Given as goal

abbrev pub invariant-loop-segment : goal.invariant-loop-segment
invariant-loop-segment l = IsEarliestExpiry (take l.segment-index l.segments) l.least
