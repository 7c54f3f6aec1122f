-- So many links can't meet all walks.
use Rattle.std.proofs.Common.{[], ◌≤◌, ◌-◌}
use Rattle.path_report.specs.inner.Cuts.{CannotCut}
use Rattle.path_report.proofs.survival.losses_survived.Given as goal

abbrev pub invariant-loop-survived : goal.invariant-loop-survived
invariant-loop-survived l = record {
  few : l.survived ≤ 3;
  survive : CannotCut l.walks [] l.survived;
}

abbrev pub decreases-loop-survived : goal.decreases-loop-survived
decreases-loop-survived l = 3 - l.survived
