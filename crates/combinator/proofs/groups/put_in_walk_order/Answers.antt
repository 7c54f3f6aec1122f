use Rattle.std.proofs.Common.{is_lt, rules}
use Rattle.std.specs.Ordering.{nat_cmp}
use Rattle.std.proofs.lemmas.List.Sorted.{IsPermutation-trans, answers_always}
use Rattle.std.proofs.lemmas.Result.{on_ok_weaker}
use Rattle.combinator.specs.inner.Group.{GroupValue, group_begins}
use Rattle.combinator.proofs.Sorted.{begins_less, begins_ranks, begins_rise}
use Rattle.combinator.proofs.groups.put_in_walk_order.Goals as goal

pub returns-clause-same : goal.returns-clause-same
returns-clause-same c = IsPermutation-trans _ _ _ c.sort_by_cached_key.ensures.permutation c.sort_by.ensures.permutation

pub returns-clause-sorted : goal.returns-clause-sorted
returns-clause-sorted c =
    on_ok_weaker c.sort_by.result
    (λ sorted. begins_rise (λ (one other : GroupValue). is_lt (nat_cmp (group_begins one) (group_begins other))) begins_ranks begins_less _
    (sorted (λ (one other : GroupValue). is_lt (nat_cmp (group_begins one) (group_begins other))) begins_ranks
    (answers_always _ _ _ (λ f a r after called. search rules))))
    c.sort_by.ensures.sorted
