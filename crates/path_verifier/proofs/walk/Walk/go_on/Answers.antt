use Rattle.std.proofs.Common.{arith}
use Rattle.path_verifier.proofs.Hops.{length_later}
use Rattle.path_verifier.proofs.Entries.{length_travelled}
use Rattle.path_verifier.proofs.walk.Walk.go_on.Goals as goal

pub returns-clause-few : goal.returns-clause-few
returns-clause-few c =
    let count = length_travelled c.args.piece.now c.requires.range in
    rw (c.push_later.ensures, length_later c.meet.new.self c.args.piece.now) (omega arith)
