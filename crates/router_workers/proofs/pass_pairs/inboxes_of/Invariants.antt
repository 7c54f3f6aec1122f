use Rattle.std.proofs.Common.{◌≡◌, All, length}
use Rattle.router_workers.specs.inner.PassPairs.{ArePassPairs}
use Rattle.router_workers.proofs.pass_pairs.inboxes_of.Given as goal

abbrev pub invariant-loop : goal.invariant-loop
invariant-loop g l = (length l.inboxes.items ≡ l.counter)
    × ((length l.pairs.items ≡ l.counter)
    × (All (λ inbox. inbox.slots ≡ l.fn.slots) l.inboxes.items
    × ArePassPairs l.inboxes.items l.pairs.items))
