use Rattle.std.proofs.Common.{rules, leb}
use Rattle.std.proofs.lemmas.Bool.{leb-true, leb-false}
use Rattle.std.proofs.lemmas.List.Sorted.{IsPartitionPoint-from_clause, IsPartitionedBy-leb}
use Rattle.combinator.specs.inner.Group.{group_begins}
use Rattle.combinator.proofs.groups.count_to.Goals as goal

pub returns-clause-below : goal.returns-clause-below
returns-clause-below c =
    let parted = IsPartitionedBy-leb group_begins c.args.groups.now c.args.at c.requires in
    let point =
    IsPartitionPoint-from_clause (λ group. leb (group_begins group) c.args.at) _ _ c.partition_point.ensures.partitioned parted (λ a r q k. search rules) in
    λ k d low high. leb-true _ _ (point.0 k d low high)

pub returns-clause-rest : goal.returns-clause-rest
returns-clause-rest c =
    let parted = IsPartitionedBy-leb group_begins c.args.groups.now c.args.at c.requires in
    let point =
    IsPartitionPoint-from_clause (λ group. leb (group_begins group) c.args.at) _ _ c.partition_point.ensures.partitioned parted (λ a r q k. search rules) in
    λ k d low high. leb-false _ _ (point.1 k d low high)
