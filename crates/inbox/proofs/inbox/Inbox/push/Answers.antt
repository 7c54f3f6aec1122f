use Rattle.inbox.proofs.Products.{puts, learns}
use Rattle.inbox.proofs.inbox.Inbox.push.Goals as goal

pub push_as-requires-clause-rule : goal.push_as-requires-clause-rule
push_as-requires-clause-rule g c = (puts _ _ _ _ c.pass.invariant.1, learns _ _)
