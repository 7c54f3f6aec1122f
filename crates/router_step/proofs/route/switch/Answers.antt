-- The place in the next segment is that of the header after the arrival.
use Rattle.std.proofs.Common.{sym, ◌∙◌}
use Rattle.path_header.specs.Borrowed.{value_of}
use Rattle.router_step.specs.Place.{current_info, current_hop, seg_id_on_arrival, header_on_arrival}
use Rattle.router_step.proofs.Leaving.{told_by_place, switched_ok}
use Rattle.router_step.proofs.route.switch.Goals as goal

pub returns-clause-there : goal.returns-clause-there
returns-clause-there c =
    let value = value_of c.args.header.now in
    let arrival = c.args.arrival.now in
    told_by_place c.in_next_segment-there.result (header_on_arrival arrival value) (c.in_next_segment-there.ensures (seg_id_on_arrival arrival (current_info value) (current_hop value)) c.requires.here)

pub returns-clause-exact : goal.returns-clause-exact
returns-clause-exact c =
    let value = value_of c.args.header.now in
    let arrival = c.args.arrival.now in
    let there = c.in_next_segment-there.ensures (seg_id_on_arrival arrival (current_info value) (current_hop value)) c.requires.here in
    let over = sym c.if-not-is_over_link.ensures in
    let passed = sym c.pass.ensures ∙ c.in_ok-pass.was in
    switched_ok c.args.view.now c.args.now arrival (header_on_arrival arrival value) c.args.here c.in_next_segment-there.result c.segment_of.result c.requires.here c.segment_of.ensures.value c.if-segment_of-here.false over there passed
