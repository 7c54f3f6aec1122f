use Rattle.std.proofs.Common.{rules}
use Rattle.std.proofs.lemmas.List.Sorted.{IsPartitionPoint-from_clause}
use Rattle.path_server.specs.inner.Index.{ends_number}
use Rattle.path_server.specs.inner.Blocks.{Block, begins_within}
use Rattle.path_server.proofs.Found.{begins_parted, front_is}
use Rattle.path_server.proofs.blocks.up_to.Goals as goal

pub returns : goal.returns
returns c =
    let segments = c.args.segments.now in
    let bs = c.args.blocks.now in
    let bound = ends_number c.args.ends in
    let parted = begins_parted segments bs bound c.requires.rises c.requires.filled in
    let point =
    IsPartitionPoint-from_clause (λ (b : Block). begins_within segments bound b.items) _ _ c.partition_point-end.ensures.partitioned parted (λ a r q k. search rules) in
    front_is segments bs bound c.partition_point-end.result c.requires.rises c.requires.filled c.partition_point-end.ensures.bound point.1
