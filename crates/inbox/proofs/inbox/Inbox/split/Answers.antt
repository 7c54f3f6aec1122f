use Rattle.inbox.proofs.Products.{splits}
use Rattle.inbox.proofs.inbox.Inbox.split.Goals as goal

pub another-further-requires-clause-rule : goal.another-further-requires-clause-rule
another-further-requires-clause-rule g c = splits _ _ c.pass.invariant.1
