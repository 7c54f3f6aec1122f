use Rattle.std.proofs.Common.{codes}
use Rattle.serde_json.specs.View.{view}
use Rattle.json_fields.specs.Fields.{text_at}
use Rattle.line_faults.proofs.Told.{no_subject_on}
use Rattle.line_faults.proofs.reason.push_event.Goals as goal

pub returns-then-code-eq140-clause-subject : goal.returns-then-code-eq140-clause-subject
returns-then-code-eq140-clause-subject c =
    no_subject_on c.push_bad_line.result (text_at (codes "do") (view c.args.event.now)) c.args.code c.push_bad_line.new.why
    c.if-code-eq140.true
