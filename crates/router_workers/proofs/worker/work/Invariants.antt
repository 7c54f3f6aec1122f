use Rattle.router_workers.specs.inner.PassPairs.{AreInboxes, inboxes_of}
use Rattle.router_workers.proofs.worker.work.Given as goal

abbrev pub invariant-loop : goal.invariant-loop
invariant-loop g l =
    AreInboxes g.J.RunFacts.workers g.J.RunFacts.slots (inboxes_of l.senders.items)
