use Rattle.std.proofs.Common.{◌≡◌, take}
use Rattle.router_workers.specs.inner.PassPairs.{inboxes_of}
use Rattle.router_workers.proofs.pass_pairs.split_all.Given as goal

abbrev pub invariant-loop-first_sender : goal.invariant-loop-first_sender
invariant-loop-first_sender g l =
    (inboxes_of l.first_sender-items ≡ inboxes_of l.fn.first_senders.items)
    × (inboxes_of l.further.items
    ≡ take l.first_sender-index (inboxes_of l.fn.first_senders.items))
