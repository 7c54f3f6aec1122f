use Rattle.std.proofs.Common.{◌-◌, take, Contains}
use Rattle.combinator.specs.inner.Front.{groups_in}
use Rattle.combinator.specs.inner.Group.{GroupValue}
use Rattle.combinator.specs.inner.Over.{OfChoices}
use Rattle.combinator.specs.inner.Search.{IsNoBetter}
use Rattle.combinator.proofs.Trying.{WasTriedOver}
use Rattle.combinator.proofs.search.Search.+has_better.Given as goal

abbrev pub decreases-has_better : goal.decreases-has_better
decreases-has_better g l = l.depth

abbrev pub invariant-loop-group : goal.invariant-loop-group
invariant-loop-group g l = (group : GroupValue) → Contains (take l.group-index l.next_groups) group
    → WasTriedOver (OfChoices (IsNoBetter l.self.ask.now l.found)) l.self.groups.now (l.depth - 1) (groups_in l.front) l.fn.at group
