use Rattle.std.proofs.Common.{codes, length, option_map, refl, sym, ap, ◌∙◌, arith}
use Rattle.std.proofs.lemmas.Option.{slice_get_read}
use Rattle.event_lines.proofs.PolicyFormed.{first_there, none_so_far, none_there}
use Rattle.line_faults.specs.Misfits.{link_misfit, item_site}
use Rattle.line_faults.specs.inner.Meaning.{misfit_meant}
use Rattle.line_faults.proofs.misfit.links_misfit.Goals as goal

pub loop-number-preserved : goal.loop-number-preserved
loop-number-preserved c =
    let all = c.args.links.now in
    let number = c.loop-number.number in
    let one = c.index-links-number.result in
    let here = slice_get_read all (length all) number one refl c.loop-number-test.true
    c.index-links-number.is in
    let none = sym c.link_misfit.ensures ∙ ap (λ o. option_map misfit_meant o) c.in_default.is in
    none_so_far _ (λ k d. link_misfit (item_site (codes "links") k) d) all number one here none c.loop-number.invariant

pub returns-in-Some : goal.returns-in-Some
returns-in-Some c =
    let all = c.args.links.now in
    let number = c.loop-number.number in
    let one = c.index-links-number.result in
    let here = slice_get_read all (length all) number one refl c.loop-number-test.true
    c.index-links-number.is in
    let gives = sym c.link_misfit.ensures ∙ ap (λ o. option_map misfit_meant o) c.in-Some.is in
    sym (first_there _ (λ k d. link_misfit (item_site (codes "links") k) d) all number one (misfit_meant c.in-Some.misfit)
    c.loop-number.invariant here gives)

pub returns : goal.returns
returns c =
    sym (none_there _ (λ k d. link_misfit (item_site (codes "links") k) d) c.args.links.now (λ k one less there.
    c.loop-number.invariant k one (omega (arith, less, c.loop-number-test.false)) there))
