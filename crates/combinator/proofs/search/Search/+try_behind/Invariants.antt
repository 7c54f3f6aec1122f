use Rattle.std.proofs.Common.{◌≡◌, ◌-◌, take, Contains}
use Rattle.combinator.specs.inner.Front.{groups_in}
use Rattle.combinator.specs.inner.Group.{GroupValue}
use Rattle.combinator.specs.inner.Over.{OfChoices}
use Rattle.combinator.specs.inner.Search.{AreKept, IsMetBy, StillMeet}
use Rattle.combinator.proofs.Trying.{WasTriedOver}
use Rattle.combinator.proofs.search.Search.+try_behind.Given as goal

abbrev pub decreases-try_behind : goal.decreases-try_behind
decreases-try_behind g l = l.depth

abbrev pub invariant-loop-group : goal.invariant-loop-group
invariant-loop-group g l = record {
  walk : l.state.walk ≡ l.fn.state.walk;
  kept : AreKept l.self.ask.now l.self.limit l.state.kept.items;
  still : StillMeet l.self.limit l.fn.state.kept.items l.state.kept.items;
  met : (group : GroupValue) → Contains (take l.group-index l.next_groups) group
      → WasTriedOver (OfChoices (IsMetBy l.self.ask.now l.self.limit l.state.kept.items)) l.self.groups.now (l.depth - 1) (groups_in l.front) l.fn.at group;
}
