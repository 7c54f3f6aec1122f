use Rattle.std.proofs.Common.{rules, drop, sym, ap, subst, ◌∙◌}
use Rattle.std.proofs.lemmas.List.{take_rest}
use Rattle.std.proofs.lemmas.List.Sorted.{IsPartitionPoint-from_clause}
use Rattle.path_server.specs.inner.Index.{ends_number}
use Rattle.path_server.specs.inner.Blocks.{Block, begins_below, RestOf}
use Rattle.path_server.proofs.Found.{begins_below_parted, rest_is}
use Rattle.path_server.proofs.blocks.from_on.Goals as goal

pub returns : goal.returns
returns c =
    let segments = c.args.segments.now in
    let bs = c.args.blocks.now in
    let bound = ends_number c.args.ends in
    let starts = c.partition_point-starts.result in
    let parted = begins_below_parted segments bs bound c.requires.rises c.requires.filled in
    let point =
    IsPartitionPoint-from_clause (λ (b : Block). begins_below segments bound b.items) _ _ c.partition_point-starts.ensures.partitioned parted (λ a r q k. search rules) in
    let rest = rest_is segments bs bound starts c.requires.rises c.requires.filled c.partition_point-starts.ensures.bound point.0 in
    subst (RestOf segments bound bs) (sym (take_rest bs c.saturating_sub.result ∙ ap (λ n. drop n bs) c.saturating_sub.ensures)) rest
