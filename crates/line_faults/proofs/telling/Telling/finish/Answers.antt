use Rattle.std.proofs.Common.{subst, sym}
use Rattle.std.proofs.lemmas.Result.{err_from_is_err_and}
use Rattle.std.specs.String.{string_bytes}
use Rattle.line_faults.specs.inner.Telling.{Finishes, TellingValue, stands_at, telling_value}
use Rattle.line_faults.proofs.Writing.{last_done, last_unwritten, last_written}
use Rattle.line_faults.proofs.telling.Telling.finish.Goals as goal

pub returns-then-is_done-clause-told : goal.returns-then-is_done-clause-told
returns-then-is_done-clause-told g c =
    last_done (telling_value c.args.self.now) (g.K.Sink.held c.args.sink.now) (c.is_done.ensures.done c.if-is_done.true)

pub returns-in_err-write-clause-told : goal.returns-in_err-write-clause-told
returns-in_err-write-clause-told g c =
    let p = err_from_is_err_and c.from_residual.result c.from_residual.ensures.1 in
    rw (p.1, p.2)
    (last_unwritten c.tell_rest-told.result c.in_err-write.field-0.0 (telling_value c.args.self.now)
    (stands_at c.tell_rest-told.new.self.run c.tell_rest-told.new.self.notes)
    (stands_at c.write.new.self.run c.write.new.self.notes)
    (string_bytes c.args.self.now.notes.text) (string_bytes c.tell_rest-told.new.self.notes.text)
    (string_bytes c.write.new.self.notes.text)
    (g.K.Sink.held c.args.sink.now) (g.K.Sink.held c.write.new.sink)
    c.requires.written (c.is_done.ensures.more c.if-is_done.false) c.tell_rest-told.ensures.told c.in_err-write.ensures.written)

pub returns-clause-told : goal.returns-clause-told
returns-clause-told g c =
    subst (λ (v : TellingValue). Finishes c.tell_rest-told.result (telling_value c.args.self.now) v.place (g.K.Sink.held c.args.sink.now) (g.K.Sink.held c.write.new.sink))
    (sym c.in_ok-write.ensures.same)
    (last_written c.tell_rest-told.result (telling_value c.args.self.now)
    (stands_at c.tell_rest-told.new.self.run c.tell_rest-told.new.self.notes)
    (string_bytes c.args.self.now.notes.text) (string_bytes c.tell_rest-told.new.self.notes.text)
    (g.K.Sink.held c.args.sink.now) (g.K.Sink.held c.write.new.sink)
    c.requires.written (c.is_done.ensures.more c.if-is_done.false) c.tell_rest-told.ensures.told c.in_ok-write.ensures.written.0)
