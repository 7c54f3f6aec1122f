use Rattle.std.proofs.Common.{arith}
use Rattle.path_header.proofs.Seen.{begins}
use Rattle.path_header.proofs.borrowed.begins.Goals as goal

pub returns : goal.returns
returns c =
    let front = begins c.args.bytes.now (λ i. omega (arith, c.type_inv.bytes i)) c.requires in
    record { header = front.spells.is_header; long = front.long; spelled = front.spells }
