use Rattle.std.proofs.Common.{◌+◌, ◌-◌, length, subst, ap, arith}
use Rattle.std.proofs.lemmas.List.{take_all}
use Rattle.path_segment.specs.Chain.{IsLeastExpiry}
use Rattle.path_server.proofs.expiry.least_expiry.Goals as goal

pub returns : goal.returns
returns c =
    let segment = c.args.segment.now in
    subst (λ some. IsLeastExpiry segment.timestamp some c.least_expiry.result)
    (take_all (length c.entries.result.now - 1 + 1) segment.entries (omega (arith, ap length c.entries.ensures.value)))
    c.least_expiry.ensures
