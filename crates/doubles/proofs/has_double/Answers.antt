use Rattle.std.proofs.Common.{◌∙◌}
use Rattle.std.proofs.lemmas.List.Sorted.{IsNonDecreasingBy-from_sort}
use Rattle.doubles.proofs.Counted.{same_doubles}
use Rattle.doubles.proofs.has_double.Goals as goal

pub has_neighbours-requires : goal.has_neighbours-requires
has_neighbours-requires c = IsNonDecreasingBy-from_sort (λ x. x) _ c.sort_unstable.ensures.sorted

pub returns-clause-value : goal.returns-clause-value
returns-clause-value c = c.has_neighbours.ensures ∙ same_doubles _ _ c.sort_unstable.ensures.permutation
