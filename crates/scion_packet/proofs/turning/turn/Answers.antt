-- The turn by the step on the packet's parts.
use Rattle.std.proofs.Common.{drop}
use Rattle.path_header.specs.Shown.{header_at_front}
use Rattle.scion_packet.proofs.Turned.{IsCut, turned, not_turned, as_before}
use Rattle.scion_packet.proofs.turning.turn.Goals as goal

pub returns-in-Ok-step_in_parts : goal.returns-in-Ok-step_in_parts
returns-in-Ok-step_in_parts c =
    let packet = c.args.packet.now in
    let place = c.in-Ok.place in
    let front = c.split_at_mut-front.result.0.now in
    let rest = c.split_at_mut-front.result.1.now in
    let e = c.in-Ok.ensures in
    let s = c.split_at_mut-front.ensures in
    let cut : IsCut packet front rest place =
    record { at = e.place; within = e.within; ahead = s.front; behind = s.back } in
    record {
      exact = turned c.args.view.now c.args.now c.args.arrival packet front rest
          c.step_in_parts.new.rest place (header_at_front (drop place packet))
          c.in-Ok-step_in_parts.outcome e.exact cut c.in-Ok-step_in_parts.ensures.exact;
    }

pub returns-in-Err-step_in_parts : goal.returns-in-Err-step_in_parts
returns-in-Err-step_in_parts c =
    let packet = c.args.packet.now in
    let place = c.in-Ok.place in
    let front = c.split_at_mut-front.result.0.now in
    let rest = c.split_at_mut-front.result.1.now in
    let e = c.in-Ok.ensures in
    let s = c.split_at_mut-front.ensures in
    let cut : IsCut packet front rest place =
    record { at = e.place; within = e.within; ahead = s.front; behind = s.back } in
    let r = c.in-Err-step_in_parts.ensures.exact in
    record {
      exact = (
        not_turned c.args.view.now c.args.now c.args.arrival packet front rest place
            (header_at_front (drop place packet)) c.in-Err-step_in_parts.refusal e.exact cut r.0,
        as_before packet front rest c.step_in_parts.new.rest place cut r.1,
      );
    }
