-- The line of one pair more, and what was written before a fault.
use Rattle.std.proofs.Common.{rules, ◌+◌, [], ◌∷◌, ◌++◌, refl}
use Rattle.std.proofs.lemmas.Result.{err_from_is_err_and}
use Rattle.path_report.proofs.Writing.{begun_behind, some_begin, wrote_next}
use Rattle.path_report.proofs.report.write_pairs.Goals as goal

pub returns-in_err-report-clause-written : goal.returns-in_err-report-clause-written
returns-in_err-report-clause-written g c =
    let p = err_from_is_err_and c.from_residual.result c.from_residual.ensures.1 in
    rw p.1
    (begun_behind c.args.net.now c.args.wanted.now c.args.pairs.now c.loop-pair.pair-index c.pair-item.result
    c.loop-pair.reports.items
    (g.K.Sink.held c.args.sink.now) (g.K.Sink.held c.loop-pair.sink) (g.K.Sink.held c.write_pair.new.sink)
    c.requires c.loop-pair-test.true c.pair-item.is c.loop-pair.invariant.wrote c.in_err-report.ensures.written)

pub returns-in_err-push-clause-written : goal.returns-in_err-push-clause-written
returns-in_err-push-clause-written g c =
    let p = err_from_is_err_and c.from_residual-in_err-push.result c.from_residual-in_err-push.ensures.1 in
    rw p.1
    (some_begin c.args.net.now c.args.wanted.now c.args.pairs.now (c.loop-pair.pair-index + 1)
    (c.loop-pair.reports.items ++ c.in_ok-report.report ∷ [])
    (g.K.Sink.held c.args.sink.now) (g.K.Sink.held c.write_pair.new.sink) c.requires
    (wrote_next c.args.net.now c.args.wanted.now c.args.pairs.now c.loop-pair.pair-index c.pair-item.result
    c.loop-pair.reports.items (c.loop-pair.reports.items ++ c.in_ok-report.report ∷ []) c.in_ok-report.report
    (g.K.Sink.held c.args.sink.now) (g.K.Sink.held c.loop-pair.sink) (g.K.Sink.held c.write_pair.new.sink)
    c.loop-pair-test.true c.pair-item.is c.loop-pair.invariant.wrote c.in_ok-report.ensures.written refl))

pub loop-pair-preserved : goal.loop-pair-preserved
loop-pair-preserved g c = record {
  wrote = wrote_next c.args.net.now c.args.wanted.now c.args.pairs.now c.loop-pair.pair-index c.pair-item.result
      c.loop-pair.reports.items c.push.new.self.items c.in_ok-report.report
      (g.K.Sink.held c.args.sink.now) (g.K.Sink.held c.loop-pair.sink) (g.K.Sink.held c.write_pair.new.sink)
      c.loop-pair-test.true c.pair-item.is c.loop-pair.invariant.wrote c.in_ok-report.ensures.written
      c.in_ok-push.ensures.items;
  flag = search rules;
}
