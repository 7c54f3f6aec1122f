use Rattle.std.proofs.Common.{subst}
use Rattle.std.specs.Prelude.{IfErr}
use Rattle.path_verifier.specs.Accepted.{request_of, IsRefused}
use Rattle.path_verifier.proofs.walk.Walk.follow_path.Goals as goal

pub returns-clause-fault : goal.returns-clause-fault
returns-clause-fault c =
    subst (λ pieces. IfErr c.follow_pieces.result (λ fault. (header : _) (rules : _)
    → IsRefused (request_of pieces header c.args.src c.args.dst c.args.now rules) fault))
    c.pieces.view_is c.follow_pieces.ensures.fault
