use Rattle.std.proofs.Common.{sym, ap, ◌∙◌, subst}
use Rattle.forwarding.specs.Turn.{Packet, turned_packet}
use Rattle.network_core.specs.Delivery.{IsAtRouter}
use Rattle.router_workers.specs.inner.Run.{carried_packet, without_hops}
use Rattle.router_workers.specs.declared.carried.Job.{Job}
use Rattle.router_workers.proofs.TurnByTurn.{few_turns, went_on}
use Rattle.router_workers.proofs.carried.CarriedFlight.advance.Goals as goal

pub turn-requires : goal.turn-requires
turn-requires g c =
    let here = subst (λ (p : Packet). IsAtRouter p.place) (sym c.self.view_is)
    c.requires.under_way in
    rw (c.deref_mut.ensures.value) (few_turns _ _ _ _ _ _ c.self.invariant here)

pub invariant_of-result : goal.invariant_of-result
invariant_of-result g c =
    let here = subst (λ (p : Packet). IsAtRouter p.place) (sym c.self.view_is)
    c.requires.under_way in
    let n = c.args.topology.now in
    let old = c.self.inside.job.value in
    let turned =
    c.turn.ensures.packet
    ∙ ap (λ (job : Job). without_hops (turned_packet n c.args.now (carried_packet job)))
    c.deref_mut.ensures.value
    ∙ ap (λ n. without_hops (turned_packet n c.args.now (carried_packet old))) c.requires.network
    ∙ ap (λ now. without_hops (turned_packet g.J.RunFacts.network now (carried_packet old)))
    c.requires.now in
    rw (c.turn.ensures.number, c.turn.ensures.turns, c.deref_mut.ensures.value)
    (went_on _ _ _ _ _ (carried_packet old) _ c.self.invariant here turned)
