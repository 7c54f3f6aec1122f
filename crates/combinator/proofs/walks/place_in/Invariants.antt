-- The walk belongs between the two places.
use Rattle.std.proofs.Common.{◌≡◌, ◌-◌, ◌≤◌, length}
use Rattle.std.specs.List.{AllWithin}
use Rattle.std.specs.declared.cmp.Ordering.TheVariants.{Less, Greater}
use Rattle.combinator.specs.Order.{walk_cmp}
use Rattle.combinator.specs.inner.Gathered.{hops_in}
use Rattle.combinator.proofs.walks.place_in.Given as goal

abbrev pub invariant-loop-low : goal.invariant-loop-low
invariant-loop-low l = record {
  range : l.low ≤ l.high;
  within : l.high ≤ length l.walks;
  before : AllWithin (λ one. walk_cmp one l.walk ≡ Less) (hops_in l.walks) 0 l.low;
  behind : AllWithin (λ one. walk_cmp one l.walk ≡ Greater) (hops_in l.walks) l.high (length (hops_in l.walks));
}

abbrev pub decreases-loop-low : goal.decreases-loop-low
decreases-loop-low l = l.high - l.low
