use Rattle.std.proofs.Common.{length, option_map, refl, sym, ap, ◌∙◌, arith}
use Rattle.std.proofs.lemmas.Option.{slice_get_read}
use Rattle.serde_json.specs.View.{view}
use Rattle.event_lines.specs.PolicyForm.{misfit_value, option_misfit}
use Rattle.event_lines.proofs.PolicyFormed.{first_there, none_so_far, none_there}
use Rattle.event_lines.proofs.policy_misfit.options_misfit.Goals as goal

pub loop-number-preserved : goal.loop-number-preserved
loop-number-preserved c =
    let options = c.args.options.now in
    let number = c.loop-number.number in
    let option = c.index-options-number.result in
    let here = slice_get_read options (length options) number option refl c.loop-number-test.true
    c.index-options-number.is in
    let none = sym c.option_misfit.ensures ∙ ap (λ o. option_map misfit_value o) c.in_default.is in
    none_so_far _ option_misfit options number option here none c.loop-number.invariant

pub returns-in-Some : goal.returns-in-Some
returns-in-Some c =
    let options = c.args.options.now in
    let number = c.loop-number.number in
    let option = c.index-options-number.result in
    let here = slice_get_read options (length options) number option refl c.loop-number-test.true
    c.index-options-number.is in
    let gives = sym c.option_misfit.ensures ∙ ap (λ o. option_map misfit_value o) c.in-Some.is in
    sym (first_there _ option_misfit options number option (misfit_value c.in-Some.part)
    c.loop-number.invariant here gives)

pub returns : goal.returns
returns c =
    sym (none_there _ option_misfit c.args.options.now (λ k option less there.
    c.loop-number.invariant k option (omega (arith, less, c.loop-number-test.false)) there))
