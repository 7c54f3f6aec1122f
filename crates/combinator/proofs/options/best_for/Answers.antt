use Rattle.std.proofs.Common.{◌≡◌, ◌⊎◌, ◌<◌, ◌+◌, ℕ, Option, Some, length, refl, sym, subst, inr, arith}
use Rattle.std.specs.Prelude.{IfSome}
use Rattle.std.proofs.lemmas.Option.{slice_get_read}
use Rattle.combinator.specs.inner.Choice.{GoesNoLater, IsAllowed}
use Rattle.combinator.proofs.Wanted.{AllowNoneTo, still_best, now_best, none_taken, none_passed, none_of_all}
use Rattle.combinator.proofs.options.best_for.Goals as goal
use Rattle.combinator.proofs.options.best_for.Goals.{then-takes_over, else-takes_over}

pub loop-place-init : goal.loop-place-init
loop-place-init g c = record {
  held = c.requires;
  allowed = still_best c.args.best (IsAllowed c.args.options.now c.args.walk.now);
  later = λ place option wanted. wanted;
  none = λ j other less. absurd (omega (arith, less));
}

pub loop-place-preserved : goal.loop-place-preserved
loop-place-preserved g c =
    let options = c.args.options.now in
    let walk = c.args.walk.now in
    let place = c.loop-place.place in
    let option = c.index-options-place.result in
    let within = c.loop-place-test.true in
    let was = c.loop-place.invariant in
    let here = slice_get_read options (length options) place option refl within c.index-options-place.is in
    let Kept : Option ℕ → Type 0 = λ next. IfSome next (λ best. best < length options)
    × IfSome next (λ best. (c.args.best ≡ Some best) ⊎ IsAllowed options walk best)
    × GoesNoLater options next c.args.best × AllowNoneTo options (place + 1) next walk in
    let kept : Kept c.if-takes_over.next = elim c.if-takes_over.branch [
      | then-takes_over w ↦ (
          let yes = c.takes_over.ensures.yes w.if-takes_over.true in
          subst Kept (sym w.next-is) (
            within,
            inr (record { option = option; there = here; allows = yes.1 }),
            λ p o goes. was.later p o (now_best options place option here c.loop-place.next yes.0 p o goes),
            none_taken options place option here c.loop-place.next walk was.none yes.0,
          ))
      | else-takes_over w ↦ subst Kept (sym w.next-is) (
        was.held,
        was.allowed,
        was.later,
        none_passed options place option here c.loop-place.next walk was.none (c.takes_over.ensures.no w.if-takes_over.false),
      )
    ] in record { held = kept.0; allowed = kept.1; later = kept.2; none = kept.3 }

pub returns-clause-none : goal.returns-clause-none
returns-clause-none g c =
    none_of_all c.args.options.now c.loop-place.place c.loop-place.next c.args.walk.now c.loop-place-test.false c.loop-place.invariant.none
