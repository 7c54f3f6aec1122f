use Rattle.std.proofs.Common.{arith}
use Rattle.path_report.proofs.Cutting.{none_meets}
use Rattle.path_report.proofs.survival.losses_survived.Goals as goal

pub loop-survived-init : goal.loop-survived-init
loop-survived-init c = record { few = omega arith; survive = none_meets c.args.walks.now c.requires }
