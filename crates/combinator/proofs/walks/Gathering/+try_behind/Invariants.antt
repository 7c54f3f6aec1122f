-- The groups before this one were tried, and all that goes on from them.
use Rattle.std.proofs.Common.{◌≡◌, ◌-◌, take, Contains}
use Rattle.combinator.specs.inner.Front.{groups_in}
use Rattle.combinator.specs.inner.Gathered.{AreGathered, IsListed, StillList}
use Rattle.combinator.specs.inner.Group.{GroupValue}
use Rattle.combinator.specs.inner.Over.{OfChoices}
use Rattle.combinator.proofs.Trying.{WasTriedOver}
use Rattle.combinator.proofs.walks.Gathering.+try_behind.Given as goal

abbrev pub decreases-try_behind : goal.decreases-try_behind
decreases-try_behind g l = l.depth

abbrev pub invariant-loop-group : goal.invariant-loop-group
invariant-loop-group g l = record {
  walk : l.walk ≡ l.fn.walk;
  gathered : AreGathered l.self.ask.now l.self.limit l.walks;
  still : StillList l.self.limit l.fn.walks l.walks;
  listed : (group : GroupValue) → Contains (take l.group-index l.next_groups) group
      → WasTriedOver (OfChoices (IsListed l.self.ask.now l.self.limit l.walks))
      l.self.groups.now (l.depth - 1) (groups_in l.front) l.fn.at group;
}
