use Rattle.std.proofs.Common.{refl}
use Rattle.inbox.proofs.Products.{takes, learns}
use Rattle.inbox.proofs.inbox.Inbox.pop.Goals as goal

pub pop_as-requires-clause-rule : goal.pop_as-requires-clause-rule
pop_as-requires-clause-rule g c = (takes _ _ c.pass.invariant.1 (c.pass.invariant.2 refl), learns _ _)
