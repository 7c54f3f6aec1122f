use Rattle.std.proofs.Common.{rules, ◌∙◌, ◌≤◌, ◌*◌, ◌+◌, ap, arith, length, get_or}
use Rattle.std.proofs.lemmas.List.{length_push}
use Rattle.path_server.specs.inner.Blocks.{kept_before}
use Rattle.path_server.proofs.Swept.{counted_on, counts_more}
use Rattle.path_server.proofs.sweeps.count_all.Goals as goal

pub loop-start-preserved : goal.loop-start-preserved
loop-start-preserved c =
    let segments = c.args.segments.now in
    let start = c.loop-start.start in
    let kept = c.loop-start.invariant in
    let low : start * 8 ≤ length segments = omega (arith, c.loop-start-test.true) in
    record {
      sum = ap (λ n. n + c.count_live-kept.result) kept.sum ∙ ap (λ n. kept_before c.args.now segments (8 * start) + n) c.count_live-kept.ensures
          ∙ counted_on c.args.now segments start c.min.result c.min.ensures low;
      long = ap length c.add_count.ensures.items ∙ length_push c.loop-start.counts.items c.loop-start.kept ∙ ap (λ n. n + 1) kept.long;
      room = search rules;
      each = λ k d within. ap (λ all. get_or all k d) c.add_count.ensures.items
          ∙ counts_more c.args.now segments c.loop-start.counts.items start c.loop-start.kept kept.long kept.each kept.sum k d within;
    }
