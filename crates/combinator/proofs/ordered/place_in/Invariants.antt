-- The path belongs between the two places.
use Rattle.std.proofs.Common.{◌≡◌, ◌-◌, ◌≤◌, length}
use Rattle.std.specs.List.{AllWithin}
use Rattle.std.specs.declared.cmp.Ordering.TheVariants.{Less, Greater}
use Rattle.combinator.specs.Order.{path_cmp}
use Rattle.combinator.proofs.ordered.place_in.Given as goal

abbrev pub invariant-loop-low : goal.invariant-loop-low
invariant-loop-low l = record {
  range : l.low ≤ l.high;
  within : l.high ≤ length l.ordered;
  before : AllWithin (λ one. path_cmp one l.found ≡ Less) l.ordered 0 l.low;
  behind : AllWithin (λ one. path_cmp one l.found ≡ Greater) l.ordered l.high (length l.ordered);
}

abbrev pub decreases-loop-low : goal.decreases-loop-low
decreases-loop-low l = l.high - l.low
