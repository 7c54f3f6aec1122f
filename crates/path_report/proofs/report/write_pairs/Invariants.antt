-- The lines of the pairs so far were written.
use Rattle.std.proofs.Common.{◌≡◌, take}
use Rattle.path_report.specs.inner.Reports.{WroteLines}
use Rattle.path_report.proofs.report.write_pairs.Given as goal

abbrev pub invariant-loop-pair : goal.invariant-loop-pair
invariant-loop-pair g l = record {
  wrote : WroteLines l.net l.wanted (take l.pair-index l.pairs) l.reports.items
      (g.K.Sink.held l.initial.sink) (g.K.Sink.held l.sink);
  flag : g.K.Sink.failed l.sink ≡ g.K.Sink.failed l.initial.sink;
}
