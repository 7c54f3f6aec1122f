use Rattle.std.proofs.Common.{[], sym, ap, ◌∙◌}
use Rattle.forwarding.specs.Turn.{packet_with}
use Rattle.forwarding.proofs.Ended.{turn_by_view}
use Rattle.router_workers.specs.inner.Run.{without_hops}
use Rattle.router_workers.proofs.carried.turn.Goals as goal

pub returns-in-Ok : goal.returns-in-Ok
returns-in-Ok c =
    let old = packet_with c.args.bytes.now c.args.place.now [] in
    let seen = sym c.view.ensures ∙ c.in-Ok.is in
    ap without_hops (c.turn_in_place.ensures.packet [])
    ∙ ap (λ t. without_hops t.1)
    (turn_by_view c.args.topology.now c.args.now old c.in-AtRouter.stop _ c.in-AtRouter.is seen)
