use Rattle.std.proofs.Common.{◌<◌, ◌≤◌, ◌-◌, length, take, All}
use Rattle.combinator.specs.inner.Alike.{AreAlike}
use Rattle.combinator.proofs.groups.count_alike.Given as goal

abbrev pub invariant-loop-count : goal.invariant-loop-count
invariant-loop-count l = record {
  some : 0 < l.count;
  within : l.count ≤ length l.pieces;
  alike : All (AreAlike l.head) (take l.count l.pieces);
}

abbrev pub decreases-loop-count : goal.decreases-loop-count
decreases-loop-count l = length l.pieces - l.count
