use Rattle.std.proofs.Common.{length}
use Rattle.combinator.proofs.found.+compare_walks.Given as goal

abbrev pub decreases-compare_walks : goal.decreases-compare_walks
decreases-compare_walks l = length l.walk.now
