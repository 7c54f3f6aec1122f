use Rattle.std.proofs.Common.{◌≡◌}
use Rattle.router_workers.specs.inner.PassPairs.{inboxes_of}
use Rattle.router_workers.proofs.run.fill.Given as goal

abbrev pub invariant-loop-number : goal.invariant-loop-number
invariant-loop-number g l =
    inboxes_of l.first_senders.items ≡ inboxes_of l.fn.first_senders.items
