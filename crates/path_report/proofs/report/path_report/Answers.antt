-- What was written when a report ended.
use Rattle.std.proofs.Common.{rules, subst}
use Rattle.std.specs.String.{string_bytes}
use Rattle.std.specs.Io.KnownBytes.{Appends}
use Rattle.std.proofs.lemmas.Result.{err_from_is_err_and}
use Rattle.streams.specs.Streams.{AppendsFront}
use Rattle.path_report.proofs.Writing.{begins, none_begin, report_begun, report_without, report_written}
use Rattle.path_report.proofs.report.path_report.Goals as goal

pub returns-in_err-pairs-clause-written : goal.returns-in_err-pairs-clause-written
returns-in_err-pairs-clause-written g c =
    let p = err_from_is_err_and c.from_residual.result c.from_residual.ensures.1 in
    rw p.1
    (begins c.args.net.now c.args.wanted.now (g.K.Sink.held c.args.sink.now) (g.K.Sink.held c.args.sink.now)
    (none_begin c.args.net.now c.args.wanted.now (g.K.Sink.held c.args.sink.now)))

pub returns-in_err-ranked-clause-written : goal.returns-in_err-ranked-clause-written
returns-in_err-ranked-clause-written g c =
    let p = err_from_is_err_and c.from_residual-in_err-ranked.result c.from_residual-in_err-ranked.ensures.1 in
    rw p.1
    (report_without c.args.net.now c.args.wanted.now c.in_ok-reports.reports.items
    (g.K.Sink.held c.args.sink.now) (g.K.Sink.held c.write_pairs.new.sink) c.in_ok-reports.ensures.written)

pub returns-in_err-write_line-clause-written : goal.returns-in_err-write_line-clause-written
returns-in_err-write_line-clause-written g c =
    let p = err_from_is_err_and c.from_residual-in_err-write_line.result c.from_residual-in_err-write_line.ensures.1 in
    rw p.1
    (report_begun c.args.net.now c.args.wanted.now c.in_ok-reports.reports.items (string_bytes c.in_ok-ranked.ranked)
    (g.K.Sink.held c.args.sink.now) (g.K.Sink.held c.write_pairs.new.sink) (g.K.Sink.held c.write_line.new.sink)
    c.in_ok-reports.ensures.written (search (rules, c.in_ok-ranked.ensures))
    (subst (λ text. AppendsFront (g.K.Sink.held c.write_pairs.new.sink) (g.K.Sink.held c.write_line.new.sink) text)
    c.as_str.ensures.value c.in_err-write_line.ensures.front))

pub returns-clause-written : goal.returns-clause-written
returns-clause-written g c =
    report_written c.args.net.now c.args.wanted.now c.in_ok-reports.reports.items (string_bytes c.in_ok-ranked.ranked)
    (g.K.Sink.held c.args.sink.now) (g.K.Sink.held c.write_pairs.new.sink) (g.K.Sink.held c.write_line.new.sink)
    c.in_ok-reports.ensures.written (search (rules, c.in_ok-ranked.ensures))
    (subst (λ text. Appends (g.K.Sink.held c.write_pairs.new.sink) (g.K.Sink.held c.write_line.new.sink) text)
    c.as_str.ensures.value c.in_ok-write_line.ensures.written)
