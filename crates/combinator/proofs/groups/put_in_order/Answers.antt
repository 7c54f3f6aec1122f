use Rattle.std.proofs.Common.{is_lt, rules}
use Rattle.std.proofs.lemmas.List.Sorted.{answers_always}
use Rattle.combinator.specs.inner.Group.{GroupValue}
use Rattle.combinator.specs.inner.UsablePieces.{piece_cmp}
use Rattle.combinator.proofs.Sorted.{begins_rise, group_earlier, group_ranks}
use Rattle.combinator.proofs.groups.put_in_order.Goals as goal

pub returns-clause-sorted : goal.returns-clause-sorted
returns-clause-sorted c =
    begins_rise (λ (one other : GroupValue). is_lt (piece_cmp one.head other.head)) group_ranks group_earlier _
    (c.sort_unstable_by.ensures.sorted (λ (one other : GroupValue). is_lt (piece_cmp one.head other.head)) group_ranks
    (answers_always _ _ _ (λ f a r after called. search rules)))
