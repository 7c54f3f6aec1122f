use Rattle.std.specs.String.{string_bytes}
use Rattle.event_lines.specs.Refusals.{bad_line_refusal, coded}
use Rattle.event_lines.specs.Text.{bad_line}
use Rattle.event_lines.proofs.Tells.{bad_line_tells, tells_as}
use Rattle.event_lines.proofs.happening.answer_bad_line.Goals as goal

pub returns-clause-refusal : goal.returns-clause-refusal
returns-clause-refusal c =
    let before = c.args.reply.now in
    let after = c.push_bad_line.new.reply in
    tells_as c.push_bad_line.result (string_bytes before.text) (string_bytes after.text) bad_line
    (coded after.refusal) bad_line_refusal c.requires.0 bad_line_tells c.push_bad_line.ensures.added
    c.push_bad_line.ensures.refusal
