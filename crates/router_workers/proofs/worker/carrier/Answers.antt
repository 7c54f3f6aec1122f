use Rattle.std.proofs.Common.{sym, ◌∙◌, arith}
use Rattle.router_workers.proofs.Numbered.{position_small}
use Rattle.router_workers.proofs.worker.carrier.Goals as goal

pub overflow_add-result : goal.overflow_add-result
overflow_add-result c =
    let small = position_small c.args.topology.now c.args.ia c.in-Ok.info c.known.ensures
    (sym c.as_info.ensures ∙ c.in-Ok.is) in
    let router = c.ranges.router.fits in
    omega arith
