-- The first of the options before this place.
use Rattle.std.proofs.Common.{◌≤◌}
use Rattle.combinator.proofs.Wanted.{IsFirstTo}
use Rattle.combinator.proofs.options.first_option.Given as goal

abbrev pub invariant-loop-place : goal.invariant-loop-place
invariant-loop-place g l = record {
  upto : l.first ≤ l.place;
  none : IsFirstTo l.options l.place l.first;
}
