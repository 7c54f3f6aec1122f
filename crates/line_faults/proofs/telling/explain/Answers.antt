use Rattle.std.proofs.Common.{arith, rules, ◌≡◌, ◌∙◌, [], length, ap, refl, subst, sym, Err}
use Rattle.std.proofs.lemmas.Grind.{common_steps}
use Rattle.std.proofs.lemmas.List.{nil_from_length}
use Rattle.std.proofs.lemmas.Result.{err_from_is_err_and}
use Rattle.event_lines.proofs.Writing.{on_stage}
use Rattle.line_faults.specs.declared.finding.FindingForm.{FindingForm}
use Rattle.line_faults.specs.Explained.{AreExplained}
use Rattle.line_faults.specs.inner.Telling.{stands_at, telling_value, untold}
use Rattle.line_faults.proofs.Running.{begun, ends_cut, ends_done, ends_short, ends_too_long, ends_unread, form_untold, passed_on}
use Rattle.line_faults.proofs.telling.explain.Goals as goal

pub loop-bytes-init : goal.loop-bytes-init
loop-bytes-init g c = record {
  far = begun c.new-telling.result.notes.form (g.S.Source.left c.args.source.now) (g.K.Sink.held c.args.sink.now) (telling_value c.new-telling.result)
      (c.new-telling.ensures.value ∙ ap untold (sym (form_untold c.new-telling.result c.args.form c.new-telling.ensures.value)));
  none = c.new-telling.ensures.text;
  source = search rules;
  sink = search rules;
}

pub returns-then-is_empty-clause-explained : goal.returns-then-is_empty-clause-explained
returns-then-is_empty-clause-explained g c =
    let brought = c.in-Some.ensures.bytes in
    let none : c.in-Some.bytes.now ≡ [] = nil_from_length c.in-Some.bytes.now (search (rules, c.if-is_empty.ensures)) in
    rw (← form_untold c.new-telling.result c.args.form c.new-telling.ensures.value) (ends_done c.new-telling.result.notes.form (g.S.Source.left c.args.source.now) (g.S.Source.left c.loop-bytes.source)
    (g.S.Source.left c.read_into.new.source)
    (g.K.Sink.held c.args.sink.now) (g.K.Sink.held c.loop-bytes.sink) (g.K.Sink.held c.finish.new.sink)
    c.in-Some.bytes.now (stands_at c.finish.new.self.run c.finish.new.self.notes) c.loop-bytes.invariant.far none brought.0
    (brought.1.0 none) (on_stage c.finish.new.self.run.net) c.in_ok-finish.ensures.told)

pub returns-in_err-finish-clause-explained : goal.returns-in_err-finish-clause-explained
returns-in_err-finish-clause-explained g c =
    let brought = c.in-Some.ensures.bytes in
    let none : c.in-Some.bytes.now ≡ [] = nil_from_length c.in-Some.bytes.now (search (rules, c.if-is_empty.ensures)) in
    let p = err_from_is_err_and c.from_residual.result c.from_residual.ensures.1 in
    rw (p.1, p.2) (subst (λ (form : FindingForm). AreExplained form (Err c.in_err-finish.field-0.0)
    (g.S.Source.left c.args.source.now) (g.S.Source.left c.read_into.new.source)
    (g.K.Sink.held c.args.sink.now) (g.K.Sink.held c.finish.new.sink))
    (form_untold c.new-telling.result c.args.form c.new-telling.ensures.value)
    (ends_cut c.new-telling.result.notes.form c.in_err-finish.field-0.0 (g.S.Source.left c.args.source.now) (g.S.Source.left c.loop-bytes.source)
    (g.S.Source.left c.read_into.new.source)
    (g.K.Sink.held c.args.sink.now) (g.K.Sink.held c.loop-bytes.sink) (g.K.Sink.held c.finish.new.sink)
    c.in-Some.bytes.now (stands_at c.finish.new.self.run c.finish.new.self.notes) c.loop-bytes.invariant.far none brought.0
    (brought.1.0 none) c.in_err-finish.ensures.told))

pub returns-then-count-eq-MAX_INPUT_LEN-clause-explained : goal.returns-then-count-eq-MAX_INPUT_LEN-clause-explained
returns-then-count-eq-MAX_INPUT_LEN-clause-explained g c =
    let brought = c.in-Some.ensures.bytes in
    let some : ¬ (c.in-Some.bytes.now ≡ []) = λ none. (let is = ap length none in absurd (search (rules, c.if-is_empty.ensures, is))) in
    rw (← form_untold c.new-telling.result c.args.form c.new-telling.ensures.value) (ends_too_long c.new-telling.result.notes.form (g.S.Source.left c.args.source.now) (g.S.Source.left c.loop-bytes.source)
    (g.S.Source.left c.read_into.new.source)
    (g.K.Sink.held c.args.sink.now) (g.K.Sink.held c.loop-bytes.sink)
    c.in-Some.bytes.now c.loop-bytes.invariant.far c.if-count-eq-MAX_INPUT_LEN.true some
    (let last = c.wanted_after-wanted.ensures.last c.if-count-eq-MAX_INPUT_LEN.true in grind (arith, common_steps, brought.1.1, last)) brought.0)

pub returns-in_err-exchange-clause-explained : goal.returns-in_err-exchange-clause-explained
returns-in_err-exchange-clause-explained g c =
    let brought = c.in-Some.ensures.bytes in
    let p = err_from_is_err_and c.from_residual-in_err-exchange.result c.from_residual-in_err-exchange.ensures.1 in
    rw (p.1, p.2) (subst (λ (form : FindingForm). AreExplained form (Err c.in_err-exchange.field-0.0)
    (g.S.Source.left c.args.source.now) (g.S.Source.left c.read_into.new.source)
    (g.K.Sink.held c.args.sink.now) (g.K.Sink.held c.exchange.new.sink))
    (form_untold c.new-telling.result c.args.form c.new-telling.ensures.value)
    (ends_short c.new-telling.result.notes.form c.in_err-exchange.field-0.0 (g.S.Source.left c.args.source.now) (g.S.Source.left c.loop-bytes.source) (g.S.Source.left c.read_into.new.source)
    (g.K.Sink.held c.args.sink.now) (g.K.Sink.held c.loop-bytes.sink) (g.K.Sink.held c.exchange.new.sink)
    c.in-Some.bytes.now (telling_value c.exchange.new.self) c.loop-bytes.invariant.far
    (let fits = c.wanted_after-wanted.ensures.fits (omega (arith, c.loop-bytes.invariant.far.few, c.if-count-eq-MAX_INPUT_LEN.false)) in grind (arith, common_steps, brought.1.1, fits))
    brought.0 c.in_err-exchange.ensures.told))

pub returns-in_default-clause-explained : goal.returns-in_default-clause-explained
returns-in_default-clause-explained g c =
    rw (← form_untold c.new-telling.result c.args.form c.new-telling.ensures.value) (ends_unread c.new-telling.result.notes.form (g.S.Source.left c.args.source.now) (g.S.Source.left c.loop-bytes.source)
    (g.S.Source.left c.read_into.new.source)
    (g.K.Sink.held c.args.sink.now) (g.K.Sink.held c.loop-bytes.sink)
    c.loop-bytes.invariant.far c.in_default.ensures.bytes)

pub loop-bytes-preserved : goal.loop-bytes-preserved
loop-bytes-preserved g c =
    let brought = c.in-Some.ensures.bytes in
    let told = c.in_ok-exchange.ensures.told in
    record {
      far = passed_on c.new-telling.result.notes.form (g.S.Source.left c.args.source.now)
          (g.S.Source.left c.loop-bytes.source) (g.S.Source.left c.read_into.new.source)
          (g.K.Sink.held c.args.sink.now) (g.K.Sink.held c.loop-bytes.sink) (g.K.Sink.held c.exchange.new.sink)
          c.in-Some.bytes.now (telling_value c.exchange.new.self) c.loop-bytes.invariant.far brought.0
          (let fits = c.wanted_after-wanted.ensures.fits (omega (arith, c.loop-bytes.invariant.far.few, c.if-count-eq-MAX_INPUT_LEN.false)) in grind (arith, common_steps, brought.1.1, fits))
          told (c.in_ok-exchange.ensures.number refl) (on_stage c.exchange.new.self.run.net);
      none = c.in_ok-exchange.ensures.text refl;
      source = search rules;
      sink = search rules;
    }
