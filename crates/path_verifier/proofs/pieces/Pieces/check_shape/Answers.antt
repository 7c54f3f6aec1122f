use Rattle.std.proofs.Common.{subst}
use Rattle.std.specs.Prelude.{IfErr}
use Rattle.path_verifier.specs.Accepted.{request_of, IsRefused}
use Rattle.path_verifier.proofs.pieces.Pieces.check_shape.Goals as goal

pub returns-clause-fault : goal.returns-clause-fault
returns-clause-fault c =
    subst (λ pieces. IfErr c.check_shape.result (λ fault. (header : _) (now : _) (rules : _)
    → IsRefused (request_of pieces header c.args.src c.args.dst now rules) fault))
    c.self.view_is c.check_shape.ensures.fault
