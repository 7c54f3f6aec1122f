use Rattle.std.proofs.Common.{◌≤◌, ◌-◌, length, take, All}
use Rattle.combinator.specs.inner.Group.{GroupValue, IsGroup}
use Rattle.combinator.specs.inner.Over.{AreGrouped}
use Rattle.combinator.specs.inner.UsablePieces.{AreIn}
use Rattle.combinator.proofs.groups.groups_of.Given as goal

abbrev pub invariant-loop-start : goal.invariant-loop-start
invariant-loop-start l = record {
  within : l.start ≤ length l.pieces;
  each : All IsGroup l.groups.items;
  grouped : AreGrouped l.groups.items (take l.start l.pieces);
  own : All (λ (group : GroupValue). AreIn group.pieces l.pieces) l.groups.items;
}

abbrev pub decreases-loop-start : goal.decreases-loop-start
decreases-loop-start l = length l.pieces - l.start
