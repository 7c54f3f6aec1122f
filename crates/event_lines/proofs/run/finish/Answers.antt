use Rattle.std.proofs.Common.{ap, subst, sym}
use Rattle.std.proofs.lemmas.Result.{err_from_is_err_and}
use Rattle.event_lines.specs.inner.Session.{Finishes, SessionValue, session_value}
use Rattle.event_lines.proofs.Writing.{finish_failed, finished, nothing_told}
use Rattle.event_lines.proofs.run.finish.Goals as goal

pub returns-then-is_done-clause-told : goal.returns-then-is_done-clause-told
returns-then-is_done-clause-told g c =
    let done = c.is_done.ensures.done c.if-is_done.true in
    (done.0, (done.1.begun, nothing_told c.args.accepted (session_value c.args.session.now) done.0 (g.K.Sink.held c.args.sink.now) done.1))

pub returns-in_err-write_replies-clause-told : goal.returns-in_err-write_replies-clause-told
returns-in_err-write_replies-clause-told g c =
    let p = err_from_is_err_and c.from_residual.result c.from_residual.ensures.1 in
    rw (p.1, p.2)
    (finish_failed c.args.accepted c.answer-heard.result c.in_err-write_replies.field-0.0 (session_value c.args.session.now)
    (session_value c.answer-heard.new.self) (session_value c.write_replies.new.session) c.answer-heard.new.self.run.net _
    (g.K.Sink.held c.args.sink.now) (g.K.Sink.held c.write_replies.new.sink)
    c.requires (c.is_done.ensures.more c.if-is_done.false) c.answer-heard.ensures.told c.in_err-write_replies.ensures.written)

pub returns-clause-told : goal.returns-clause-told
returns-clause-told g c =
    let same = ap (λ (t : SessionValue). t.stage) c.in_ok-write_replies.ensures.written.1 in
    subst (λ stage. Finishes c.args.accepted c.answer-heard.result (session_value c.args.session.now) stage (g.K.Sink.held c.args.sink.now) (g.K.Sink.held c.write_replies.new.sink))
    (sym same)
    (finished c.args.accepted c.answer-heard.result (session_value c.args.session.now) c.answer-heard.new.self.run.net (session_value c.answer-heard.new.self).replies
    (g.K.Sink.held c.args.sink.now) (g.K.Sink.held c.write_replies.new.sink)
    c.requires (c.is_done.ensures.more c.if-is_done.false) c.answer-heard.ensures.told c.in_ok-write_replies.ensures.written.0)
