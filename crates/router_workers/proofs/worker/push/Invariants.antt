use Rattle.std.proofs.Common.{◌≡◌}
use Rattle.router_workers.proofs.worker.push.Given as goal

abbrev pub invariant-loop : goal.invariant-loop
invariant-loop g l = (l.posted ≡ l.fn.posted) × (l.sender ≡ l.fn.sender)
