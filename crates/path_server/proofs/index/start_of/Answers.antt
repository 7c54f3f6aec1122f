use Rattle.std.proofs.Common.{rules, ltb}
use Rattle.std.proofs.lemmas.Bool.{ltb-true, ltb-false}
use Rattle.std.proofs.lemmas.List.Sorted.{IsPartitionPoint-from_clause, IsPartitionedBy-ltb}
use Rattle.path_server.specs.Index.{rank_at}
use Rattle.path_server.specs.inner.Index.{ends_number}
use Rattle.path_server.proofs.index.start_of.Goals as goal

pub returns-clause-below : goal.returns-clause-below
returns-clause-below c =
    let rises = c.requires in
    let parted = IsPartitionedBy-ltb (rank_at c.args.segments.now) _ (ends_number c.args.ends) rises in
    let point =
    IsPartitionPoint-from_clause (λ place. ltb (rank_at c.args.segments.now place) (ends_number c.args.ends)) _ _ c.partition_point.ensures.partitioned parted (λ a r q k. search rules) in
    λ k d low high. ltb-true _ _ (point.0 k d low high)

pub returns-clause-rest : goal.returns-clause-rest
returns-clause-rest c =
    let rises = c.requires in
    let parted = IsPartitionedBy-ltb (rank_at c.args.segments.now) _ (ends_number c.args.ends) rises in
    let point =
    IsPartitionPoint-from_clause (λ place. ltb (rank_at c.args.segments.now place) (ends_number c.args.ends)) _ _ c.partition_point.ensures.partitioned parted (λ a r q k. search rules) in
    λ k d low high. ltb-false _ _ (point.1 k d low high)
