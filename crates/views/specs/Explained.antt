-- The output of `scionet_view explain`.
use Rattle.std.specs.Prelude.{◌≡◌, ◌⊎◌, ℕ, Bool, true, false, List, Option, Result, Ok, Err}
use Rattle.event_lines.specs.declared.fault.RunFault.{RunFault}
use Rattle.event_lines.specs.declared.fault.RunFault.TheVariants.{Topology}
use Rattle.line_faults.specs.declared.finding.FindingForm.{FindingForm}
use Rattle.line_faults.specs.declared.finding.FindingForm.TheVariants.{Text, Json}
use Rattle.line_faults.specs.Explained.{AreExplained}

-- the form of findings: objects, or lines of text
abbrev pub form_of : (is_json : Bool) → FindingForm
form_of true = Json
form_of false = Text

-- the lines of a source were answered and explained, up to the end, with whether something was
-- found, or to a topology that was refused, which is something; or another fault came. The first
-- two contents are what the source still had before and after it; the last two are what the sink
-- held before and after it.
abbrev pub ExplainsAll : (form : FindingForm) (result : Result Bool RunFault)
    (before after held holds : Option (List ℕ)) → Type 0
ExplainsAll form (Ok found) before after held holds =
    AreExplained form (Ok found) before after held holds
    ⊎ ((found ≡ true) × AreExplained form (Err Topology) before after held holds)
ExplainsAll form (Err Topology) before after held holds = ⊥
ExplainsAll form (Err fault) before after held holds =
    AreExplained form (Err fault) before after held holds
