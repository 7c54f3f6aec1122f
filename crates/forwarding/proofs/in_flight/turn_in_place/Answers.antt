-- The packet is where its router's step put it, with the bytes that the step made.
use Rattle.std.proofs.Common.{sym, ap, ◌∙◌}
use Rattle.router_step.specs.Packet.{packet_step}
use Rattle.forwarding.specs.Turn.{packet_with, at_place, turn_under}
use Rattle.forwarding.proofs.Stepped.{packet_stepped}
use Rattle.forwarding.proofs.in_flight.turn_in_place.Goals as goal

pub returns-in-AtRouter-clause-packet : goal.returns-in-AtRouter-clause-packet
unfolding turn_under
returns-in-AtRouter-clause-packet c passed =
    let a = c.args in
    let old = packet_with a.bytes.now a.place.now passed in
    let stop = c.in-AtRouter.stop in
    packet_stepped a.topology.now a.bytes.now _ a.place.now _ stop
    (packet_step a.view.now a.now stop.arrival a.bytes.now) c.step-stepped.result _ _ c.step-stepped.ensures.exact c.answer.ensures.went c.answer.ensures.refused passed
    ∙ sym (ap (λ place. (at_place a.topology.now a.view.now a.now old place).1) c.in-AtRouter.is)
