use Rattle.std.proofs.Common.{subst, sym}
use Rattle.work_lines.specs.Report.{Reports}
use Rattle.event_lines.specs.declared.accepted.AcceptedLines.TheVariants.{Preparing}
use Rattle.work_lines.proofs.Departing.{listened_may}
use Rattle.work_lines.proofs.Worked.{flag_behind, worked}
use Rattle.work_lines.proofs.work.work_lines.Goals as goal

pub carry-requires-clause-packets : goal.carry-requires-clause-packets
carry-requires-clause-packets g c κs within =
    listened_may Preparing c.in_ok-net.net
    (g.S.Source.left c.args.source.now) (g.S.Source.left c.listen.new.source)
    (g.K.Sink.held c.args.sink.now) (g.K.Sink.held c.listen.new.sink) c.in_ok-net.ensures.listens

pub returns-clause-works : goal.returns-clause-works
returns-clause-works g c =
    worked c.write_report.result c.in_ok-net.net c.args.workers c.args.slots
    (g.S.Source.left c.args.source.now) (g.S.Source.left c.listen.new.source)
    (g.K.Sink.held c.args.sink.now) (g.K.Sink.held c.listen.new.sink) (g.K.Sink.held c.write_report.new.sink)
    c.as_str.result.now c.in_ok-net.ensures.listens c.in_ok-text.ensures.workers
    (subst (Reports c.in_ok-net.net c.args.slots) (sym c.as_str.ensures.value) c.in_ok-text.ensures.report)
    c.write_report.ensures.written

pub returns-clause-sink : goal.returns-clause-sink
returns-clause-sink g c =
    flag_behind (g.K.Sink.failed c.args.sink.now) (g.K.Sink.failed c.listen.new.sink)
    (g.K.Sink.failed c.write_report.new.sink) c.write_report.result c.as_str.result.now
    (g.K.Sink.held c.listen.new.sink) (g.K.Sink.held c.write_report.new.sink)
    c.in_ok-net.ensures.sink c.write_report.ensures.flag c.write_report.ensures.written
