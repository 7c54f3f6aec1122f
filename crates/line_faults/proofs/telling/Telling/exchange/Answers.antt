use Rattle.std.proofs.Common.{arith, ap, subst, sym}
use Rattle.std.proofs.lemmas.Result.{err_from_is_err_and}
use Rattle.std.specs.String.{string_bytes}
use Rattle.line_faults.specs.inner.Telling.{Exchanges, TellingValue, telling_value}
use Rattle.line_faults.proofs.Writing.{bytes_unwritten, bytes_written}
use Rattle.line_faults.proofs.telling.Telling.exchange.Goals as goal

pub returns-in_err-write-clause-told : goal.returns-in_err-write-clause-told
returns-in_err-write-clause-told g c =
    let p = err_from_is_err_and c.from_residual.result c.from_residual.ensures.1 in
    rw (p.1, p.2)
    (bytes_unwritten c.tell_bytes-told.result c.in_err-write.field-0.0 c.args.bytes.now (telling_value c.args.self.now)
    (telling_value c.tell_bytes-told.new.self) (telling_value c.write.new.self)
    (string_bytes c.args.self.now.notes.text) (string_bytes c.tell_bytes-told.new.self.notes.text)
    (string_bytes c.write.new.self.notes.text)
    (g.K.Sink.held c.args.sink.now) (g.K.Sink.held c.write.new.sink)
    c.requires.written c.tell_bytes-told.ensures.told c.in_err-write.ensures.written)

pub returns-clause-told : goal.returns-clause-told
returns-clause-told g c =
    subst (λ (v : TellingValue). Exchanges c.tell_bytes-told.result c.args.bytes.now (telling_value c.args.self.now) v (g.K.Sink.held c.args.sink.now) (g.K.Sink.held c.write.new.sink))
    (sym c.in_ok-write.ensures.same)
    (bytes_written c.tell_bytes-told.result c.args.bytes.now (telling_value c.args.self.now)
    (telling_value c.tell_bytes-told.new.self)
    (string_bytes c.args.self.now.notes.text) (string_bytes c.tell_bytes-told.new.self.notes.text)
    (g.K.Sink.held c.args.sink.now) (g.K.Sink.held c.write.new.sink)
    c.requires.written c.tell_bytes-told.ensures.told c.in_ok-write.ensures.written.0)

pub returns-clause-number : goal.returns-clause-number
returns-clause-number g c is =
    let same = ap (λ (v : TellingValue). v.place.tally.number) c.in_ok-write.ensures.same in
    let few = c.tell_bytes-told.ensures.number is in omega (arith, same, few)

pub returns-clause-text : goal.returns-clause-text
returns-clause-text g c is = c.in_ok-write.ensures.written.1
