use Rattle.std.proofs.Common.{◌≡◌, length, map}
use Rattle.std.specs.List.{range_with_len}
use Rattle.router_workers.specs.inner.PassPairs.{inboxes_of}
use Rattle.router_workers.proofs.pass_pairs.workers_of.Given as goal

abbrev pub invariant-loop-receiver : goal.invariant-loop-receiver
invariant-loop-receiver g l =
    (inboxes_of l.first_senders.items ≡ inboxes_of l.fn.first_senders.items)
    × ((length l.worker_list.items ≡ length l.yielded)
    × (map (λ worker. worker.number) l.worker_list.items
    ≡ range_with_len 0 (length l.yielded)))
