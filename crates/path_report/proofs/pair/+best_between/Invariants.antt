use Rattle.std.proofs.Common.{◌-◌}
use Rattle.path_report.proofs.pair.+best_between.Given as goal

abbrev pub decreases-best_between : goal.decreases-best_between
decreases-best_between l = l.wanted.now.limit - l.some
