-- Of the bytes a front was heard, line by line.
use Rattle.std.proofs.Common.{arith, refl}
use Rattle.std.proofs.lemmas.Result.{err_from_is_err_and}
use Rattle.event_lines.specs.Replies.{stage_of}
use Rattle.event_lines.specs.inner.Session.{session_value}
use Rattle.event_lines.proofs.Writing.{on_stage}
use Rattle.event_lines.proofs.Heard.{heard_none, heard_line, heard_failed, heard_short}
use Rattle.event_lines.proofs.session.Session.answer_bytes.Goals as goal

pub loop-line-init : goal.loop-line-init
loop-line-init c = heard_none c.args.accepted c.args.bytes.now (session_value c.args.self.now) c.requires

pub returns-in_err-end_line : goal.returns-in_err-end_line
returns-in_err-end_line c =
    let l = c.loop-line in
    let cut = c.in-Some.ensures.cut in
    let p = err_from_is_err_and c.from_residual.result c.from_residual.ensures.1 in
    rw (p.1, p.2) (heard_failed c.args.accepted c.args.bytes.now l.left.now c.in-Some.line.now c.in-Some.behind.now
    (session_value c.args.self.now) (session_value l.self)
    (session_value c.end_line.new.self) c.in_err-end_line.field-0.0 l.invariant cut
    c.in_err-end_line.ensures.told (on_stage l.self.run.net))

pub loop-line-preserved : goal.loop-line-preserved
loop-line-preserved c =
    let l = c.loop-line in
    let cut = c.in-Some.ensures.cut in
    let told = c.in_ok-end_line.ensures.told in
    rw (c.in_ok-end_line.ensures.rest refl)
    (heard_line c.args.accepted c.args.bytes.now l.left.now c.in-Some.line.now c.in-Some.behind.now
    (session_value c.args.self.now) (session_value l.self)
    (stage_of c.end_line.new.self.run.net) _ told.0 l.invariant cut told.1.0 told.1.1)

pub returns-in_err-extend_from_slice : goal.returns-in_err-extend_from_slice
returns-in_err-extend_from_slice c =
    let p =
    err_from_is_err_and c.from_residual-in_err-extend_from_slice.result c.from_residual-in_err-extend_from_slice.ensures.1 in
    rw (p.1, p.2)
    (heard_short c.args.accepted c.args.bytes.now c.loop-line.left.now (session_value c.args.self.now) (session_value c.loop-line.self) (session_value c.loop-line.self) c.loop-line.invariant refl
    (omega (arith, c.in_err-extend_from_slice.ensures.full, c.loop-line.self.rest.ok.1))
    (on_stage c.loop-line.self.run.net))
