use Rattle.std.proofs.Common.{arith, rules, ◌≡◌, [], length, ap}
use Rattle.std.proofs.lemmas.Grind.{common_steps}
use Rattle.std.proofs.lemmas.List.{nil_from_length}
use Rattle.std.proofs.lemmas.Result.{err_from_is_err_and}
use Rattle.std.specs.Io.KnownBytes.{IsAtEnd}
use Rattle.event_lines.specs.inner.Session.{session_value}
use Rattle.event_lines.proofs.Running.{ends_finished, ends_short, ends_unread, ends_too_long, passed_on}
use Rattle.event_lines.proofs.Writing.{on_stage}
use Rattle.event_lines.proofs.run.hear.Goals as goal

pub returns-then-is_empty-clause-heard : goal.returns-then-is_empty-clause-heard
returns-then-is_empty-clause-heard g c =
    let brought = c.in-Some.ensures.bytes in
    let none : c.in-Some.bytes.now ≡ [] = nil_from_length c.in-Some.bytes.now (search (rules, c.if-is_empty.ensures)) in
    ends_finished c.args.accepted (g.S.Source.left c.args.source.now) (g.S.Source.left c.loop-bytes.source)
    (g.S.Source.left c.read_into.new.source)
    (g.K.Sink.held c.args.sink.now) (g.K.Sink.held c.loop-bytes.sink) (g.K.Sink.held c.finish.new.sink)
    c.in-Some.bytes.now _ c.finish.result c.loop-bytes.invariant.far none brought.0
    (brought.1.0 none) c.finish.ensures.told

pub returns-then-count-eq-MAX_INPUT_LEN-clause-heard : goal.returns-then-count-eq-MAX_INPUT_LEN-clause-heard
returns-then-count-eq-MAX_INPUT_LEN-clause-heard g c =
    let brought = c.in-Some.ensures.bytes in
    let some : ¬ (c.in-Some.bytes.now ≡ []) = λ none. (let is = ap length none in absurd (search (rules, c.if-is_empty.ensures, is))) in
    ends_too_long c.args.accepted (g.S.Source.left c.args.source.now) (g.S.Source.left c.loop-bytes.source)
    (g.S.Source.left c.read_into.new.source)
    (g.K.Sink.held c.args.sink.now) (g.K.Sink.held c.loop-bytes.sink)
    c.in-Some.bytes.now c.loop-bytes.invariant.far c.if-count-eq-MAX_INPUT_LEN.true some
    (let last = c.wanted_after-wanted.ensures.last c.if-count-eq-MAX_INPUT_LEN.true in grind (arith, common_steps, brought.1.1, last)) brought.0

pub returns-in_err-exchange-clause-heard : goal.returns-in_err-exchange-clause-heard
returns-in_err-exchange-clause-heard g c =
    let brought = c.in-Some.ensures.bytes in
    let p = err_from_is_err_and c.from_residual.result c.from_residual.ensures.1 in
    rw (p.1, p.2)
    (ends_short c.args.accepted (g.S.Source.left c.args.source.now) (g.S.Source.left c.loop-bytes.source) (g.S.Source.left c.read_into.new.source)
    (g.K.Sink.held c.args.sink.now) (g.K.Sink.held c.loop-bytes.sink) (g.K.Sink.held c.exchange.new.sink)
    (session_value c.loop-bytes.session)
    (session_value c.exchange.new.session) c.in-Some.bytes.now c.in_err-exchange.field-0.0
    (IsAtEnd (g.S.Source.left c.read_into.new.source)) c.loop-bytes.invariant.far
    (let fits = c.wanted_after-wanted.ensures.fits (omega (arith, c.loop-bytes.invariant.far.few, c.if-count-eq-MAX_INPUT_LEN.false)) in grind (arith, common_steps, brought.1.1, fits))
    (let room = c.wanted_after-wanted.ensures.room in grind (arith, common_steps, brought.1.1, room))
    brought.0 c.in_err-exchange.ensures.told)

pub returns-in_default-clause-heard : goal.returns-in_default-clause-heard
returns-in_default-clause-heard g c =
    ends_unread c.args.accepted (g.S.Source.left c.args.source.now) (g.S.Source.left c.loop-bytes.source)
    (g.S.Source.left c.read_into.new.source)
    (g.K.Sink.held c.args.sink.now) (g.K.Sink.held c.loop-bytes.sink)
    c.loop-bytes.invariant.far c.in_default.ensures.bytes

pub loop-bytes-preserved : goal.loop-bytes-preserved
loop-bytes-preserved g c =
    let brought = c.in-Some.ensures.bytes in
    let exchanged = c.in_ok-exchange.ensures.told in
    record {
      far = passed_on c.args.accepted (g.S.Source.left c.args.source.now)
          (g.S.Source.left c.loop-bytes.source) (g.S.Source.left c.read_into.new.source)
          (g.K.Sink.held c.args.sink.now) (g.K.Sink.held c.loop-bytes.sink) (g.K.Sink.held c.exchange.new.sink)
          c.in-Some.bytes.now (session_value c.exchange.new.session) c.loop-bytes.invariant.far brought.0
          (let fits = c.wanted_after-wanted.ensures.fits (omega (arith, c.loop-bytes.invariant.far.few, c.if-count-eq-MAX_INPUT_LEN.false)) in grind (arith, common_steps, brought.1.1, fits))
          exchanged.0 exchanged.1.0 exchanged.1.1.0 exchanged.1.1.1 (on_stage c.exchange.new.session.run.net);
      source = search rules;
      sink = search rules;
    }
