use Rattle.std.proofs.Common.{◌≡◌}
use Rattle.std.specs.String.{string_bytes}
use Rattle.network_core.specs.Event as events
use Rattle.event_lines.specs.Refusals.{coded, refusal_of}
use Rattle.event_lines.specs.Text.{reply_text}
use Rattle.event_lines.proofs.Telling.{event_answered}
use Rattle.event_lines.proofs.Tells.{reply_tells, tells_as}
use Rattle.event_lines.proofs.happening.happen.Goals as goal
use Rattle.event_lines.proofs.happening.happen.Goals.{in-Turned+in-Refused-1, in-Done-1}

pub returns-clause-refusal : goal.returns-clause-refusal
returns-clause-refusal c =
    let before = c.args.reply.now in
    let after = c.push_reply.new.reply in
    let answered = c.match-answered.answered in
    tells_as c.push_reply.result (string_bytes before.text) (string_bytes after.text)
    (reply_text c.step.new.self answered) (coded after.refusal) (refusal_of answered) c.requires.0
    (reply_tells c.step.new.self answered c.push_reply.ensures.named) c.push_reply.ensures.added c.push_reply.ensures.refusal

pub returns-clause-told : goal.returns-clause-told
returns-clause-told c =
    let same : c.match-answered.answered ≡ c.in_ok-answered.answered = elim c.match-answered.branch [
      | in-Turned+in-Refused-1 w ↦ (let is = w.answered-is in cc)
      | in-Done-1 w ↦ (let is = w.answered-is in cc)
    ] in
    event_answered c.push_reply.result (string_bytes c.args.reply.now.text) (string_bytes c.push_reply.new.reply.text)
    c.args.net.now c.step.new.self (events.event_value c.args.event.now)
    c.in_ok-answered.answered c.match-answered.answered same c.requires.0 c.in_ok-answered.ensures.step
    c.in_ok-answered.ensures.framed c.push_reply.ensures.added
