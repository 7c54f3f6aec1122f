use Rattle.std.proofs.Common.{◌≡◌, ◌≤◌, ◌+◌, ℕ, true, false, length, refl, sym, subst, ◌∙◌, arith}
use Rattle.std.proofs.lemmas.Option.{same_Some, slice_get_read}
use Rattle.policy_expr.specs.Options.{WeighedRules}
use Rattle.combinator.specs.Answer.{GoesBefore}
use Rattle.combinator.proofs.Wanted.{IsFirstTo, first_taken, first_still, first_of_all}
use Rattle.combinator.proofs.options.first_option.Goals as goal
use Rattle.combinator.proofs.options.first_option.Goals.{then-goes_before, else-goes_before}

pub loop-place-preserved : goal.loop-place-preserved
loop-place-preserved g c =
    let options = c.args.options.now in
    let place = c.loop-place.place in
    let first = c.loop-place.first in
    let option = c.index-options-place.result in
    let other = c.index-options-first.result in
    let upto = c.loop-place.invariant.upto in
    let within = c.loop-place-test.true in
    let here = slice_get_read options (length options) place option refl within c.index-options-place.is in
    let there = slice_get_read options (length options) first other refl (omega (arith, upto, within)) c.index-options-first.is in
    let kept : (c.if-goes_before.first ≤ place + 1) × IsFirstTo options (place + 1) c.if-goes_before.first = elim c.if-goes_before.branch [
      | then-goes_before w ↦ subst (λ (next : ℕ). (next ≤ place + 1) × IsFirstTo options (place + 1) next) (sym w.first-is) (
        omega arith,
        first_taken options place first option here c.loop-place.invariant.none
            (λ second at. subst (λ (o : WeighedRules). GoesBefore place option first o) (same_Some other second (sym there ∙ at)) (c.goes_before.ensures.0 w.if-goes_before.true)),
      )
      | else-goes_before w ↦ subst (λ (next : ℕ). (next ≤ place + 1) × IsFirstTo options (place + 1) next) (sym w.first-is) (
        omega (arith, upto),
        first_still options place first option here c.loop-place.invariant.none
            (λ wanted. (let yes : c.goes_before.result ≡ true = c.goes_before.ensures.1 (wanted other there) in
            let clash : true ≡ false = sym yes ∙ w.if-goes_before.false in
            cc)),
      )
    ] in record { upto = kept.0; none = kept.1 }

pub returns : goal.returns
returns g c = first_of_all c.args.options.now c.loop-place.place c.loop-place.first c.loop-place-test.false c.loop-place.invariant.none
