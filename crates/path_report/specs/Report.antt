-- The report of a network.
use Rattle.std.specs.Prelude.{◌≡◌, ◌⊎◌, ℕ, ◌==◌, ◌&&◌, not, if◌then◌else◌, Bool, true, false, List, [], ◌∷◌, ◌++◌, map, flat_map, take, All, Option, Some, None, Result, Ok, Err}
use Rattle.std.specs.Io.KnownBytes.{Appends}
use Rattle.scion_topology.specs.declared.network.AsEntry.{AsEntry}
use Rattle.policy_expr.specs.Policy.{Rules}
use Rattle.network_core.specs.Value.{NetValue}
use Rattle.path_report.specs.declared.fault.ReportFault.{ReportFault}
use Rattle.path_report.specs.declared.fault.ReportFault.TheVariants.{Write}
use Rattle.path_report.specs.declared.pair.AsPair.{AsPair}
use Rattle.path_report.specs.declared.summary.RankedLink.{RankedLink}
use Rattle.path_report.specs.Pair.{PairValue, IsPairReport}
use Rattle.path_report.specs.Line.{pair_line}
use Rattle.path_report.specs.Cut.{cut_lines}
use Rattle.path_report.specs.Json.{pair_json, rank_json}
use Rattle.path_report.specs.Summary.{IsRanking, rank_line}

-- what a report is about: the ASes in which the paths begin and end, if they are named, the policy
-- that they keep, and the most paths that are looked for between two ASes; and whether its lines
-- are JSON objects
pub record ReportOptionsValue : Type 0 where
  pub from : Option ℕ
  pub to : Option ℕ
  pub rules : Rules
  pub limit : ℕ
  pub json : Bool

-- whether this AS is the named one, or none is named
abbrev pub is_chosen : Option ℕ → ℕ → Bool
is_chosen None ia = true
is_chosen (Some one) ia = one == ia

-- whether the report is about this pair: two different ASes, as they are named
abbrev pub is_wanted : ReportOptionsValue → AsPair → Bool
is_wanted wanted pair = not (pair.from == pair.to)
    && (is_chosen wanted.from pair.from && is_chosen wanted.to pair.to)

-- this pair, if the report is about it
abbrev pub if_wanted : ReportOptionsValue → AsPair → List AsPair
if_wanted wanted pair = if is_wanted wanted pair then pair ∷ [] else []

-- the pairs from one AS that the report is about, in the order of the list
abbrev pub pairs_from : ReportOptionsValue → List AsEntry → ℕ → List AsPair
pairs_from wanted ases ia =
    flat_map (λ one. if_wanted wanted (record { from = ia; to = one.ia })) ases

-- the pairs that the report is about, in the order of the list
abbrev pub pairs_of : ReportOptionsValue → List AsEntry → List AsPair
pairs_of wanted ases = flat_map (λ one. pairs_from wanted ases one.ia) ases

-- the line of a pair, and that of a link, in either form
abbrev pub pair_text : (json : Bool) → PairValue → List ℕ
pair_text true report = pair_json report
pair_text false report = pair_line report

abbrev pub rank_text : (json : Bool) → RankedLink → List ℕ
rank_text true ranked = rank_json ranked
rank_text false ranked = rank_line ranked

-- the text has a line for each pair of the list, then one for each of the first 10 links that most
-- of them need, and one for each link that is cut
pub record IsReport (net : NetValue) (wanted : ReportOptionsValue) (text : List ℕ) : Type 0 where
  pub reports : List PairValue
  pub pairs : map (λ report. report.pair) reports ≡ pairs_of wanted net.network.ases
  pub each : All (IsPairReport net wanted.rules wanted.limit) reports
  pub ranked : List RankedLink
  pub ranking : IsRanking net.network.links reports ranked
  pub says : text ≡ flat_map (pair_text wanted.json) reports
      ++ (flat_map (rank_text wanted.json) (take 10 ranked)
      ++ cut_lines wanted.json net.network.links)

-- the text is a beginning of the lines of the first pairs
pub record BeginsLines (net : NetValue) (wanted : ReportOptionsValue) (text : List ℕ) : Type 0 where
  pub reports : List PairValue
  pub later : List AsPair
  pub pairs : map (λ report. report.pair) reports ++ later ≡ pairs_of wanted net.network.ases
  pub each : All (IsPairReport net wanted.rules wanted.limit) reports
  pub most : ℕ
  pub says : text ≡ take most (flat_map (pair_text wanted.json) reports)

-- the text is a beginning of a report: of the lines of its first pairs, or of the whole report
abbrev pub BeginsReport : NetValue → ReportOptionsValue → (text : List ℕ) → Type 0
BeginsReport net wanted text = BeginsLines net wanted text
    ⊎ ((whole : List ℕ) × (IsReport net wanted whole × ((most : ℕ) × (text ≡ take most whole))))

-- whether a write or a flush failed
abbrev pub is_write_fault : {A : Type 0} → Result A ReportFault → Bool
is_write_fault (Err Write) = true
is_write_fault result = false

-- a report was written, or, before a fault, the beginning of one. The contents are what the sink
-- held before and after it.
abbrev pub WritesReport : (net : NetValue) (wanted : ReportOptionsValue)
    (result : Result (Unit {0}) ReportFault) (held holds : Option (List ℕ)) → Type 0
WritesReport net wanted (Ok done) held holds =
    (text : List ℕ) × (Appends held holds text × IsReport net wanted text)
WritesReport net wanted (Err fault) held holds =
    (text : List ℕ) × (Appends held holds text × BeginsReport net wanted text)
