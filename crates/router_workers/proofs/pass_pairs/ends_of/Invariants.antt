use Rattle.std.proofs.Common.{◌≡◌, length, take}
use Rattle.router_workers.specs.inner.PassPairs.{inboxes_of}
use Rattle.router_workers.proofs.pass_pairs.ends_of.Given as goal

abbrev pub invariant-loop-pair : goal.invariant-loop-pair
invariant-loop-pair g l = (length l.first_senders.items ≡ length l.yielded)
    × ((inboxes_of l.first_senders.items ≡ take (length l.yielded) l.fn.inboxes.items)
    × (inboxes_of l.receivers.items ≡ take (length l.yielded) l.fn.inboxes.items))
