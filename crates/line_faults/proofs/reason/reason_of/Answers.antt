use Rattle.std.proofs.Common.{◌≡◌, ◌==◌, false, sym, ◌∙◌}
use Rattle.serde_json.specs.View.{view}
use Rattle.line_faults.specs.Misfits.{refused_misfit}
use Rattle.line_faults.specs.Subjects.{refused_subject}
use Rattle.line_faults.proofs.Told.{meant_on, subject_on}
use Rattle.line_faults.proofs.reason.reason_of.Goals as goal

pub returns-clause-meant : goal.returns-clause-meant
returns-clause-meant c =
    let later : (c.args.line.now.number == 1) ≡ false = sym c.is_topology.ensures ∙ c.if-is_topology.false in
    rw (c.in-Some.is, later)
    (meant_on c.or_unknown-2.result (refused_misfit false c.args.code (view c.in-Some.value.now)) c.push_event.new.why
    c.or_unknown-2.ensures c.in_ok-push_event.ensures.meant)

pub returns-clause-subject : goal.returns-clause-subject
returns-clause-subject c =
    let later : (c.args.line.now.number == 1) ≡ false = sym c.is_topology.ensures ∙ c.if-is_topology.false in
    rw (c.in-Some.is, later)
    (subject_on c.or_unknown-2.result (refused_subject false c.args.code (view c.in-Some.value.now)) c.push_event.new.why
    c.or_unknown-2.ensures c.in_ok-push_event.ensures.subject)
