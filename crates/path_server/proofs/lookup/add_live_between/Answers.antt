use Rattle.std.proofs.Common.{◌∙◌, ap, sym, subst}
use Rattle.std.specs.List.Sorted.{IsNonDecreasingBy}
use Rattle.path_server.specs.Index.{rank_at}
use Rattle.path_server.specs.inner.Blocks.{Block}
use Rattle.path_server.proofs.Found.{block_rises}
use Rattle.path_server.proofs.lookup.add_live_between.Goals as goal

pub range-requires : goal.range-requires
range-requires c =
    let d = c.block-item.result in
    let same = c.deref.ensures.value ∙ ap (λ (b : Block). b.items) c.block-item.is in
    subst (IsNonDecreasingBy (rank_at c.args.segments.now)) (sym same)
    (block_rises c.args.segments.now c.between-some.result.now c.loop-block.block-index d c.between-some.ensures.rises c.loop-block-test.true)
