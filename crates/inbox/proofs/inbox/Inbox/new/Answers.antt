use Rattle.std.proofs.Common.{ap, arith}
use Rattle.inbox.proofs.Products.{begins, cuts}
use Rattle.inbox.proofs.inbox.Inbox.new.Goals as goal

pub ruled-requires-clause-rule : goal.ruled-requires-clause-rule
ruled-requires-clause-rule g c = begins

pub another-receiver-requires-clause-rule : goal.another-receiver-requires-clause-rule
another-receiver-requires-clause-rule g c = cuts _ _ (let p = ap (λ v. v.tally.share.pieces) c.in_ok-queue.ensures.3 in omega arith) (ap (λ v. v.roles.takes) c.in_ok-queue.ensures.3)
