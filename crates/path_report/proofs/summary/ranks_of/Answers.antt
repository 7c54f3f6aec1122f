-- One link more, which some pairs need or none.
use Rattle.std.proofs.Common.{rules}
use Rattle.path_report.proofs.Ranking.{ranks_with, ranks_without}
use Rattle.path_report.proofs.summary.ranks_of.Goals as goal
use Rattle.path_report.proofs.summary.ranks_of.Goals.{then-pairs-gt0+in_ok-push, else-pairs-gt0}

pub loop-place-preserved : goal.loop-place-preserved
loop-place-preserved c =
    elim c.if-pairs-gt0.branch [
      | then-pairs-gt0+in_ok-push w ↦ (
          let next = ranks_with c.args.reports.now c.args.links.now c.loop-place.place c.index-links-place.result
          c.pairs_needing-pairs.result
          c.loop-place-test.true c.index-links-place.is c.pairs_needing-pairs.ensures w.if-pairs-gt0.true in search
          (rules, next))
      | else-pairs-gt0 w ↦ (
          let next = ranks_without c.args.reports.now c.args.links.now c.loop-place.place c.index-links-place.result
          c.pairs_needing-pairs.result
          c.loop-place-test.true c.index-links-place.is c.pairs_needing-pairs.ensures w.if-pairs-gt0.false in search
          (rules, next))
    ]
