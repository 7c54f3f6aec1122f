use Rattle.std.specs.Prelude.{option_map}
use Rattle.std.specs.String.{string_bytes}
use Rattle.event_lines.specs.Refusals.{coded, refusal_shown}
use Rattle.event_lines.specs.Text.{packet_text}
use Rattle.event_lines.proofs.Tells.{shown_tells, tells_as}
use Rattle.event_lines.proofs.happening.answer_shown.Goals as goal

pub returns-clause-refusal : goal.returns-clause-refusal
returns-clause-refusal c =
    let shown = option_map (λ p. p.now) c.packet.result in
    let before = c.args.reply.now in
    let after = c.push_packet.new.reply in
    tells_as c.push_packet.result (string_bytes before.text) (string_bytes after.text)
    (packet_text shown) (coded after.refusal) (refusal_shown shown) c.requires.0 (shown_tells shown)
    c.push_packet.ensures.added c.push_packet.ensures.refusal
