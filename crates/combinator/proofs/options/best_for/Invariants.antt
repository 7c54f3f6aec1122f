-- The options before this place were asked.
use Rattle.std.proofs.Common.{◌≡◌, ◌⊎◌, ◌<◌, length, IfSome, Some}
use Rattle.combinator.specs.inner.Choice.{GoesNoLater, IsAllowed}
use Rattle.combinator.proofs.Wanted.{AllowNoneTo}
use Rattle.combinator.proofs.options.best_for.Given as goal

abbrev pub invariant-loop-place : goal.invariant-loop-place
invariant-loop-place g l = record {
  held : IfSome l.next (λ best. best < length l.options);
  allowed : IfSome l.next (λ best. (l.fn.best ≡ Some best) ⊎ IsAllowed l.options l.walk best);
  later : GoesNoLater l.options l.next l.fn.best;
  none : AllowNoneTo l.options l.place l.next l.walk;
}
