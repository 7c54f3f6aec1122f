-- The lines so far, with those that are to come, are all of them.
use Rattle.std.proofs.Common.{◌≡◌, ◌++◌, drop}
use Rattle.std.specs.String.{string_bytes}
use Rattle.event_lines.specs.Run.{ended_lines}
use Rattle.work_lines.specs.Report.{report_lines}
use Rattle.work_lines.proofs.report.report.Given as goal

abbrev pub invariant-loop-number : goal.invariant-loop-number
invariant-loop-number l =
    string_bytes l.text ++ ended_lines (report_lines l.number (drop l.number l.ends))
    ≡ ended_lines (report_lines 0 l.ends)
