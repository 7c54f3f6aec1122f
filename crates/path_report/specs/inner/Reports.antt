-- Reports of pairs, as their lines are written.
use Rattle.std.specs.Prelude.{◌≡◌, ◌⊎◌, ℕ, List, [], map, flat_map, take, All, Option, Result, Ok, Err}
use Rattle.std.specs.Io.KnownBytes.{Appends}
use Rattle.network_core.specs.Value.{NetValue}
use Rattle.path_report.specs.declared.fault.ReportFault.{ReportFault}
use Rattle.path_report.specs.declared.pair.AsPair.{AsPair}
use Rattle.path_report.specs.Pair.{PairValue, IsPairReport}
use Rattle.path_report.specs.Report.{ReportOptionsValue, pair_text, pairs_of, BeginsLines}

-- the line of this pair was written
pub record WroteLine (net : NetValue) (wanted : ReportOptionsValue) (pair : AsPair)
    (report : PairValue) (held holds : Option (List ℕ)) : Type 0 where
  pub is : IsPairReport net wanted.rules wanted.limit report
  pub pair_is : report.pair ≡ pair
  pub kept : Appends held holds (pair_text wanted.json report)

-- the text is a beginning of the line of this pair, or nothing
abbrev pub BeginsLine : NetValue → ReportOptionsValue → AsPair → (text : List ℕ) → Type 0
BeginsLine net wanted pair text = (text ≡ [])
    ⊎ ((report : PairValue) × (IsPairReport net wanted.rules wanted.limit report
    × ((report.pair ≡ pair) × ((most : ℕ) × (text ≡ take most (pair_text wanted.json report))))))

-- the line of this pair was written, or, before a fault, the beginning of it
abbrev pub WritesPair : (net : NetValue) (wanted : ReportOptionsValue) (pair : AsPair)
    (result : Result PairValue ReportFault) (held holds : Option (List ℕ)) → Type 0
WritesPair net wanted pair (Ok report) held holds = WroteLine net wanted pair report held holds
WritesPair net wanted pair (Err fault) held holds =
    (text : List ℕ) × (Appends held holds text × BeginsLine net wanted pair text)

-- the lines of these pairs were written
pub record WroteLines (net : NetValue) (wanted : ReportOptionsValue) (pairs : List AsPair)
    (reports : List PairValue) (held holds : Option (List ℕ)) : Type 0 where
  pub pairs_are : map (λ report. report.pair) reports ≡ pairs
  pub each : All (IsPairReport net wanted.rules wanted.limit) reports
  pub kept : Appends held holds (flat_map (pair_text wanted.json) reports)

-- the lines of all wanted pairs were written, or, before a fault, a beginning of them
abbrev pub WritesPairs : {A : Type 0} → (items : (A → List PairValue)) (net : NetValue)
    (wanted : ReportOptionsValue) (result : Result A ReportFault) (held holds : Option (List ℕ))
    → Type 0
WritesPairs items net wanted (Ok reports) held holds =
    WroteLines net wanted (pairs_of wanted net.network.ases) (items reports) held holds
WritesPairs items net wanted (Err fault) held holds =
    (text : List ℕ) × (Appends held holds text × BeginsLines net wanted text)
