-- The links so far that some pairs need.
use Rattle.std.proofs.Common.{◌≡◌, take}
use Rattle.path_report.specs.Summary.{ranks_from}
use Rattle.path_report.proofs.summary.ranks_of.Given as goal

abbrev pub invariant-loop-place : goal.invariant-loop-place
invariant-loop-place l = l.found.items ≡ ranks_from l.reports 0 (take l.place l.links)
