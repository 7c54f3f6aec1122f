use Rattle.std.proofs.Common.{◌≡◌, ◌≤◌, length, vec_capacity}
use Rattle.router_workers.specs.inner.Run.{AreEnds}
use Rattle.router_workers.proofs.run.collect.Given as goal

abbrev pub invariant-loop-number : goal.invariant-loop-number
invariant-loop-number g l = (length l.ends.items ≡ l.number)
    × (l.fn.count ≤ vec_capacity l.ends)
    × AreEnds g.J.RunFacts.flights g.J.RunFacts.now g.J.RunFacts.slots l.ends.items
