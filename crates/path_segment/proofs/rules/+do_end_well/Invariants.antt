use Rattle.std.proofs.Common.{length}
use Rattle.path_segment.proofs.rules.+do_end_well.Given as goal

abbrev pub decreases-do_end_well : goal.decreases-do_end_well
decreases-do_end_well l = length l.entries.now
