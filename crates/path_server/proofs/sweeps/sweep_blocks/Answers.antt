use Rattle.std.proofs.Common.{rules, ◌<◌, ◌≤◌, arith, length}
use Rattle.std.proofs.lemmas.List.Elements.{All-set}
use Rattle.path_server.specs.inner.Blocks.{Block, moved_to}
use Rattle.path_server.proofs.Swept.{swept_more, rest_more}
use Rattle.path_server.proofs.sweeps.sweep_blocks.Goals as goal

pub loop-i-preserved : goal.loop-i-preserved
loop-i-preserved c =
    let bs = c.loop-i.blocks in
    let old = c.args.blocks.now in
    let i = c.loop-i.i in
    let b = c.sweep_block.new.block in
    let kept = c.loop-i.invariant in
    let within : i < length bs = omega (arith, c.loop-i-test.true, kept.long) in
    let d = c.index-blocks-i.result in
    let few = kept.short i d within in
    record {
      long = search rules;
      swept = swept_more (moved_to c.args.now c.args.segments.now) bs old i b d within kept.long kept.rest kept.swept c.sweep_block.ensures.swept;
      rest = rest_more bs old i b kept.rest;
      short = All-set (λ (b : Block). length b.items ≤ 512) bs i b (omega (arith, few, c.sweep_block.ensures.fewer)) kept.short;
    }
