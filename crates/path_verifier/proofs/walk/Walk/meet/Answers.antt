use Rattle.std.proofs.Common.{arith}
use Rattle.path_verifier.proofs.Hops.{length_left_by}
use Rattle.path_verifier.proofs.walk.Walk.meet.Goals as goal

pub returns-else-len-eq0-clause-few : goal.returns-else-len-eq0-clause-few
returns-else-len-eq0-clause-few c =
    rw c.leave_by.ensures (let same = length_left_by c.args.hop.egress c.args.self.now in omega arith)
