use Rattle.std.proofs.lemmas.Result.{err_from_is_err_and}
use Rattle.event_lines.specs.inner.Session.{session_value}
use Rattle.event_lines.proofs.Writing.{exchange_failed}
use Rattle.event_lines.proofs.run.exchange.Goals as goal

pub returns-in_err-write_replies-clause-told : goal.returns-in_err-write_replies-clause-told
returns-in_err-write_replies-clause-told g c =
    let p = err_from_is_err_and c.from_residual.result c.from_residual.ensures.1 in
    rw (p.1, p.2)
    (exchange_failed c.args.accepted c.answer_bytes-heard.result c.in_err-write_replies.field-0.0 c.args.bytes.now (session_value c.args.session.now)
    (session_value c.answer_bytes-heard.new.self) (session_value c.write_replies.new.session)
    (g.K.Sink.held c.args.sink.now) (g.K.Sink.held c.write_replies.new.sink)
    c.requires.written c.answer_bytes-heard.ensures c.in_err-write_replies.ensures.written)
