-- The groups before this one were tried, and all that goes on from them.
use Rattle.std.proofs.Common.{◌≡◌, ◌-◌, take, Contains, IfSome}
use Rattle.combinator.specs.Answer.{question_under}
use Rattle.combinator.specs.inner.Choice.{GoesNoLater, LeavesPath}
use Rattle.combinator.specs.inner.Front.{groups_in}
use Rattle.combinator.specs.inner.Group.{GroupValue}
use Rattle.combinator.proofs.Trying.{WasTriedOver}
use Rattle.combinator.proofs.Wanted.{Passed}
use Rattle.combinator.proofs.options.Pass.+try_behind.Given as goal

abbrev pub decreases-try_behind : goal.decreases-try_behind
decreases-try_behind g l = l.depth

abbrev pub invariant-loop-group : goal.invariant-loop-group
invariant-loop-group g l = record {
  walk : l.walk ≡ l.fn.walk;
  leaves : IfSome l.next (LeavesPath (question_under l.request.set.now l.request.src l.request.dst) l.request.options.now);
  later : GoesNoLater l.request.options.now l.next l.fn.best;
  none : (group : GroupValue) → Contains (take l.group-index l.next_groups) group
      → WasTriedOver (Passed l.request.set.now l.request.src l.request.dst l.request.options.now l.next)
      l.self.groups.now (l.fn.depth - 1) (groups_in l.front) l.fn.at group;
}
