-- Texts that grow by findings.
use Rattle.std.specs.Prelude.{◌≡◌, ℕ, Bool, List, ◌++◌, codes, if◌then◌else◌, None, option_map}
use Rattle.std.specs.String.{string_bytes}
use Rattle.event_lines.specs.Run.{has_line_end}
use Rattle.line_faults.specs.declared.finding.FindingForm.{FindingForm}
use Rattle.line_faults.specs.declared.said.Said.{Said}
use Rattle.line_faults.specs.Finding.{FindingValue, all_written, has_any, written}

-- findings were added to a text, and this holds of them
abbrev pub Adds : (form : FindingForm) (Are : (List FindingValue → Type 0))
    (before after : List ℕ) → Type 0
Adds form Are before after =
    (findings : List FindingValue) × (Are findings × (after ≡ before ++ all_written form findings))

-- one finding was added, and this holds of it
abbrev pub AddsOne : (form : FindingForm) (Is : FindingValue → Type 0)
    (before after : List ℕ) → Type 0
AddsOne form Is before after =
    (finding : FindingValue) × (Is finding × (after ≡ before ++ written form finding))

-- a text on one line: the text itself, or dots if it has more lines
abbrev pub one_line : List ℕ → List ℕ
one_line text = if has_line_end text then codes "..." else text

-- this is what a finding says
pub record SaysAs (said : Said) (finding : FindingValue) : Type 0 where
  pub says : finding.says ≡ one_line (string_bytes said.text)
  pub column : finding.column ≡ said.column
  pub member : finding.member ≡ option_map string_bytes said.member
  pub found : finding.found ≡ option_map string_bytes said.found
  pub wanted : finding.wanted ≡ option_map string_bytes said.wanted

-- the warning with which this is said of the line of a number
abbrev pub warning_of : (number : ℕ) (said : Said) → FindingValue
warning_of number said = record {
  line = number;
  reply = None;
  refusal = None;
  name = None;
  says = one_line (string_bytes said.text);
  column = said.column;
  member = option_map string_bytes said.member;
  found = option_map string_bytes said.found;
  wanted = option_map string_bytes said.wanted;
}

-- this holds of the findings, and this is whether there are any
pub record AreFound (found : Bool) (Are : (List FindingValue → Type 0))
    (findings : List FindingValue) : Type 0 where
  pub are : Are findings
  pub any : found ≡ has_any findings
