-- Each walk before this one crosses one of the links.
use Rattle.std.proofs.Common.{◌≡◌, ◌-◌, ◌≤◌, length, take, true}
use Rattle.path_report.specs.inner.Cuts.{are_met}
use Rattle.path_report.proofs.survival.first_unmet.Given as goal

abbrev pub invariant-loop-place : goal.invariant-loop-place
invariant-loop-place l = record {
  within : l.place ≤ length l.walks;
  met : are_met l.lost (take l.place l.walks) ≡ true;
}

abbrev pub decreases-loop-place : goal.decreases-loop-place
decreases-loop-place l = length l.walks - l.place
