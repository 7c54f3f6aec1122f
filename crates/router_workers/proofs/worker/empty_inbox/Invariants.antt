use Rattle.std.proofs.Common.{◌≡◌}
use Rattle.router_workers.specs.inner.PassPairs.{inboxes_of}
use Rattle.router_workers.proofs.worker.empty_inbox.Given as goal

abbrev pub invariant-loop : goal.invariant-loop
invariant-loop g l = inboxes_of l.senders ≡ inboxes_of l.fn.senders
