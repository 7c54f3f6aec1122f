use Rattle.std.proofs.Common.{arith, ℕ, ◌+◌, ◌≤◌, length, take, Vec, Global}
use Rattle.std.proofs.lemmas.Grind.{common_steps}
use Rattle.streams.proofs.Reading.{ReadsAll-fault, ReadsAll-handed}
use Rattle.streams.proofs.input.read_all.Goals as goal

pub returns-in_err-read_on-clause-bytes : goal.returns-in_err-read_on-clause-bytes
returns-in_err-read_on-clause-bytes g c =
    let fault = c.in_err-read_on.field-0.0 in
    let fits : length (take (c.min.result + 1) c.loop-bytes.room) + length c.loop-bytes.bytes.items ≤ c.args.most + 1 =
    grind (arith, common_steps) in
    ReadsAll-handed {A = Vec ℕ Global} (λ bytes. bytes.items) c.args.most fault _ _ _ c.from_residual.ensures.1
    (ReadsAll-fault {A = Vec ℕ Global} (λ bytes. bytes.items) _ _ fault _ _ _ _ _ c.loop-bytes.invariant.0 fits c.in_err-read_on.ensures.bytes)
