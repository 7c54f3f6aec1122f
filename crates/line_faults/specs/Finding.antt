-- What is found in a line, and how it is written: for people as a line of text, for programs as a
-- JSON object on a line.
use Rattle.std.specs.Prelude.{ℕ, codes, List, [], ◌∷◌, ◌++◌, flat_map, Bool, true, false, Option, Some, None}
use Rattle.std.specs.Fmt.{decimal}
use Rattle.serde_json.specs.Data.{Data, null, number, unsigned, string, object, member, no_members}
use Rattle.serde_json.specs.Written.{compact_text}
use Rattle.line_faults.specs.declared.finding.FindingForm.{FindingForm}
use Rattle.line_faults.specs.declared.finding.FindingForm.TheVariants.{Text, Json}

-- what is found in the line of this number: the reply that says that it is refused, with the number
-- and the name of the refusal, or no reply if it is a warning; what is said of it; and, as far as
-- they are known, the column, the member that is meant, what stands there, and what is wanted there
pub record FindingValue : Type 0 where
  pub line : ℕ
  pub reply : Option (List ℕ)
  pub refusal : Option ℕ
  pub name : Option (List ℕ)
  pub says : List ℕ
  pub column : Option ℕ
  pub member : Option (List ℕ)
  pub found : Option (List ℕ)
  pub wanted : Option (List ℕ)

-- ---- as text

-- the reply, or `warning`
abbrev pub title : Option (List ℕ) → List ℕ
title (Some reply) = reply
title None = codes "warning"

-- `line N: REPLY: ..`, or `line N: warning: ..`
abbrev pub finding_text : FindingValue → List ℕ
finding_text finding =
    codes "line " ++ (decimal finding.line ++ (codes ": " ++ (title finding.reply
    ++ (codes ": " ++ (finding.says ++ codes "\n")))))

-- ---- as an object

-- a number or a text, or null if there is none
abbrev pub number_or_null : Option ℕ → Data
number_or_null (Some n) = number (unsigned n)
number_or_null None = null

abbrev pub text_or_null : Option (List ℕ) → Data
text_or_null (Some text) = string text
text_or_null None = null

-- the object of a finding, with its members in ascending order
unfoldable pub finding_object : FindingValue → Data
finding_object finding = object (
    member (codes "column") (number_or_null finding.column) (
    member (codes "found") (text_or_null finding.found) (
    member (codes "line") (number (unsigned finding.line)) (
    member (codes "member") (text_or_null finding.member) (
    member (codes "name") (text_or_null finding.name) (
    member (codes "refusal") (number_or_null finding.refusal) (
    member (codes "reply") (text_or_null finding.reply) (
    member (codes "text") (string finding.says) (
    member (codes "wanted") (text_or_null finding.wanted) no_members)))))))))

-- ---- findings

-- a finding as a line, in this form
abbrev pub written : FindingForm → FindingValue → List ℕ
written Text finding = finding_text finding
written Json finding = compact_text (finding_object finding) ++ codes "\n"

-- findings, one after another
abbrev pub all_written : FindingForm → List FindingValue → List ℕ
all_written form findings = flat_map (λ finding. written form finding) findings

-- whether there are any
abbrev pub has_any : List FindingValue → Bool
has_any [] = false
has_any (finding ∷ findings) = true
