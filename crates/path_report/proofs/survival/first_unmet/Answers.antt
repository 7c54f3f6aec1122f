use Rattle.std.proofs.Common.{◌≡◌, Bool, true, sym, ap, ap₂, ◌∙◌, arith}
use Rattle.std.specs.Prelude.{◌&&◌}
use Rattle.std.proofs.lemmas.List.{take_all}
use Rattle.std.proofs.lemmas.List.Folds.{list_all_more}
use Rattle.combinator.proofs.Searched.{default_of}
use Rattle.path_report.specs.inner.Cuts.{are_met, is_met}
use Rattle.path_report.proofs.survival.first_unmet.Goals as goal

pub returns-then-not-is_met-clause-some : goal.returns-then-not-is_met-clause-some
returns-then-not-is_met-clause-some c =
    let walks = c.args.walks.now in
    let place = c.loop-place.place in
    let lost = c.args.lost.now in
    let own = c.index-walks-place.result in record {
      within = c.loop-place-test.true;
      before = c.loop-place.invariant.met;
      here = λ walk is.
          ap (is_met lost) (is ∙ default_of walks place walk own c.loop-place-test.true ∙ sym c.index-walks-place.is)
          ∙ sym c.is_met.ensures ∙ c.if-not-is_met.true;
    }

pub loop-place-preserved : goal.loop-place-preserved
loop-place-preserved c =
    let walks = c.args.walks.now in
    let place = c.loop-place.place in
    let lost = c.args.lost.now in
    let within = c.loop-place-test.true in
    let here : is_met lost c.index-walks-place.result ≡ true = sym c.is_met.ensures ∙ c.if-not-is_met.false in record {
      within = omega (arith, within);
      met = list_all_more (is_met lost) walks place c.index-walks-place.result within
          ∙ ap₂ (λ (a b : Bool). a && b) c.loop-place.invariant.met (ap (is_met lost) (sym c.index-walks-place.is) ∙ here);
    }

pub returns-clause-none : goal.returns-clause-none
returns-clause-none c =
    let past = c.loop-place-test.false in
    sym (ap (are_met c.args.lost.now) (take_all c.loop-place.place c.args.walks.now (omega (arith, past)))) ∙ c.loop-place.invariant.met
