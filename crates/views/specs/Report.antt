-- The output of `scionet_view report`: the report of the network after some lines.
use Rattle.std.specs.Prelude.{◌≡◌, ◌⊎◌, ℕ, ◌==◌, ◌&&◌, not, if◌then◌else◌, is_some, codes, length, IfOk, Bool, true, false, List, ◌++◌, Option, Some, None, Result, Ok, Err}
use Rattle.std.specs.Bool.{MatchBool}
use Rattle.scion_topology.specs.declared.fault.TopologyFault.TheVariants.{UnknownAs}
use Rattle.scion_topology.specs.Network.{Network, as_named}
use Rattle.combinator.specs.declared.fault.CombineFault.TheVariants.{SameAs}
use Rattle.network_core.specs.declared.fault.EventFault.{EventFault}
use Rattle.network_core.specs.declared.fault.EventFault.TheVariants.{Combination, Topology}
use Rattle.network_core.specs.Value.{NetValue}
use Rattle.event_lines.specs.declared.accepted.AcceptedLines.TheVariants.{All}
use Rattle.event_lines.specs.declared.fault.RunFault.{RunFault}
use Rattle.event_lines.specs.declared.fault.RunFault.TheVariants.{Memory, Write}
use Rattle.event_lines.specs.Run.{Listens}
use Rattle.path_report.specs.declared.fault.ReportFault.{ReportFault}
use Rattle.path_report.specs.declared.fault.ReportFault.TheVariants as reports
use Rattle.path_report.specs.Report.{ReportOptionsValue, IsReport, BeginsReport}
use Rattle.view_words.specs.declared.report_words.ReportWords.{ReportWords}
use Rattle.views.specs.declared.remark.Remark.{Remark}
use Rattle.views.specs.declared.remark.Remark.TheVariants.{NoSegment}
use Rattle.views.specs.Reached.{Begins, Writes}
use Rattle.views.specs.Remark.{bare_text, if_so}

-- what the words want a report of
abbrev pub wanted_by : ReportWords → ReportOptionsValue
wanted_by words = record {
  from = words.from;
  to = words.to;
  rules = words.policy;
  limit = words.limit;
  json = words.json;
}

-- whether the network has this AS, if one is named
abbrev pub has_named : Network → Option ℕ → Bool
has_named network None = true
has_named network (Some ia) = is_some (as_named network.ases ia)

-- whether both are named, and are one AS
abbrev pub are_one : (from to : Option ℕ) → Bool
are_one (Some from) (Some to) = from == to
are_one from to = false

-- why there is no report, if there is none: an AS is named that the network does not have, or one
-- AS is named twice
abbrev pub report_fault : Network → (from to : Option ℕ) → Option EventFault
report_fault network from to =
    if not (has_named network from && has_named network to) then Some (Topology UnknownAs)
    else if are_one from to then Some (Combination SameAs) else None

-- whether the network stores no segment, so that a report would say of each pair that it has no
-- path; for JSON that is said all the same
abbrev pub is_bare : ReportOptionsValue → NetValue → Bool
is_bare wanted net = not wanted.json && (length net.segments == 0)

-- the line in place of such a report
abbrev pub bare_line : List ℕ
bare_line = bare_text ++ codes "\n"

-- the remark on a report for JSON
abbrev pub report_remark : ReportOptionsValue → NetValue → Option Remark
report_remark wanted net = if_so (wanted.json && (length net.segments == 0)) NoSegment

-- the text is the report, or the line in place of one that would say nothing
abbrev pub TellsPaths : ReportOptionsValue → NetValue → List ℕ → Type 0
TellsPaths wanted net text =
    MatchBool (is_bare wanted net) (text ≡ bare_line) (IsReport net wanted text)

-- the text is a beginning of that
abbrev pub BeginsPaths : ReportOptionsValue → NetValue → List ℕ → Type 0
BeginsPaths wanted net text =
    MatchBool (is_bare wanted net) (Begins bare_line text) (BeginsReport net wanted text)

-- there is no report, for this reason, and nothing was written; or the report of the network was,
-- or, before a fault, the beginning of it, and its remark is returned
abbrev pub Reports : Option EventFault → ReportOptionsValue → NetValue
    → (result : Result (Result (Option Remark) EventFault) RunFault)
    → (held holds : Option (List ℕ)) → Type 0
Reports (Some fault) wanted net result held holds = (result ≡ Ok (Err fault)) × (holds ≡ held)
Reports None wanted net result held holds =
    IfOk result (λ remark. remark ≡ Ok (report_remark wanted net))
    × Writes (TellsPaths wanted net) (BeginsPaths wanted net) result held holds

-- the lines of the source gave no network, and nothing was written; or they gave one, and its
-- report was written, if there is one. The contents are what the source still had before and after
-- it, and then what the sink of the replies and that of the report held before and after it.
abbrev pub ShowsReport : (wanted : ReportOptionsValue)
    (result : Result (Result (Option Remark) EventFault) RunFault)
    (before after told tells held holds : Option (List ℕ)) → Type 0
ShowsReport wanted result before after told tells held holds =
    ((fault : RunFault) × ((result ≡ Err fault)
    × (Listens All (Err fault) before after told tells × (holds ≡ held))))
    ⊎ ((net : NetValue) × (Listens All (Ok net) before after told tells
    × Reports (report_fault net.network wanted.from wanted.to) wanted net result held holds))

-- a fault of a report as one of a run
abbrev pub run_fault : ReportFault → RunFault
run_fault reports.Memory = Memory
run_fault reports.Write = Write
