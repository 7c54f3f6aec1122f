-- The place where the order of the index passes these ends, found by halving or seen at once.
use Rattle.std.proofs.Common.{rules, ltb, not, sym, ◌∙◌}
use Rattle.std.proofs.lemmas.Bool.{ltb-true, ltb-false, not-true, not-false}
use Rattle.std.proofs.lemmas.List.Sorted.{IsPartitionPoint-from_clause}
use Rattle.path_server.specs.Index.{rank_at}
use Rattle.path_server.specs.inner.Index.{ends_number}
use Rattle.path_server.proofs.Ranks.{all_above, no_higher_first}
use Rattle.path_server.proofs.index.end_of.Goals as goal

pub returns-in-Some-clause-rest : goal.returns-in-Some-clause-rest
returns-in-Some-clause-rest c =
    let rises = c.requires in
    all_above c.args.segments.now c.args.index.now (ends_number c.args.ends) c.in-Some.place.now
    (sym c.in-Some.ensures.value) rises
    (ltb-true _ _ (sym c.is_above.ensures ∙ c.if-is_above.true))

pub returns-in_default-clause-below : goal.returns-in_default-clause-below
returns-in_default-clause-below c =
    let rises = c.requires in
    let parted = no_higher_first c.args.segments.now _ (ends_number c.args.ends) rises in
    let point =
    IsPartitionPoint-from_clause (λ place. not (ltb (ends_number c.args.ends) (rank_at c.args.segments.now place))) _ _ c.partition_point.ensures.partitioned parted (λ a r q k. search rules) in
    λ k d low high. ltb-false _ _ (not-true _ (point.0 k d low high))

pub returns-in_default-clause-rest : goal.returns-in_default-clause-rest
returns-in_default-clause-rest c =
    let rises = c.requires in
    let parted = no_higher_first c.args.segments.now _ (ends_number c.args.ends) rises in
    let point =
    IsPartitionPoint-from_clause (λ place. not (ltb (ends_number c.args.ends) (rank_at c.args.segments.now place))) _ _ c.partition_point.ensures.partitioned parted (λ a r q k. search rules) in
    λ k d low high. ltb-true _ _ (not-false _ (point.1 k d low high))
