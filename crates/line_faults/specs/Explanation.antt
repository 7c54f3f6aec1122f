-- What is found in the lines of a run, by their replies.
use Rattle.std.specs.Prelude.{◌≡◌, ℕ, ◌+◌, Bool, true, false, List, [], ◌∷◌, ◌++◌, All, IfSome, Some, None}
use Rattle.event_lines.specs.Refusals.{Tells, is_refusal}
use Rattle.event_lines.specs.Run.{has_line_end}
use Rattle.line_faults.specs.Finding.{FindingValue}
use Rattle.line_faults.specs.Misfits.{Meant, meant_in}
use Rattle.line_faults.specs.Subjects.{subject_in}

-- the finding names this member and what is wanted there
abbrev pub Names : FindingValue → Meant → Type 0
Names finding meant = (finding.member ≡ Some meant.member) × (finding.wanted ≡ Some meant.wanted)

-- the finding is about this member
abbrev pub IsAbout : FindingValue → List ℕ → Type 0
IsAbout finding member = finding.member ≡ Some member

-- the finding says why the line of this number has this reply, with the number and the name of the
-- refusal that the reply tells; if the line has not the form of one, it names the first member that
-- is missing or not of its form, and if it has and is an event that something below refuses, it is
-- about the member that is meant
pub record IsReason (number : ℕ) (line reply : List ℕ) (finding : FindingValue) : Type 0 where
  pub coded : ℕ × List ℕ
  pub tells : Tells reply (Some coded)
  pub numbered : finding.line ≡ number
  pub replied : finding.reply ≡ Some reply
  pub refusal : finding.refusal ≡ Some coded.0
  pub name : finding.name ≡ Some coded.1
  pub meant : IfSome (meant_in number line coded.0) (Names finding)
  pub subject : IfSome (subject_in number line coded.0) (IsAbout finding)
  pub one : has_line_end finding.says ≡ false

-- the finding is a warning about the line of this number
pub record IsWarning (number : ℕ) (finding : FindingValue) : Type 0 where
  pub line : finding.line ≡ number
  pub replied : finding.reply ≡ None
  pub one : has_line_end finding.says ≡ false

-- the findings say why the line of this number is refused, if it is; else there are none
abbrev pub AreReasons : (refused : Bool) (number : ℕ) (line reply : List ℕ)
    (findings : List FindingValue) → Type 0
AreReasons true number line reply findings =
    (finding : FindingValue) × (IsReason number line reply finding × (findings ≡ finding ∷ []))
AreReasons false number line reply findings = findings ≡ []

-- the findings are about the line of this number with this reply: why it is refused, if it is, and
-- then warnings
pub record IsTold (number : ℕ) (line reply : List ℕ) (findings : List FindingValue) : Type 0 where
  pub reasons : List FindingValue
  pub warnings : List FindingValue
  pub refused : AreReasons (is_refusal reply) number line reply reasons
  pub strange : All (IsWarning number) warnings
  pub are : findings ≡ reasons ++ warnings

-- the findings are about these lines with these replies, one after another, of which the first has
-- this number
abbrev pub AreTold : (first : ℕ) (lines replies : List (List ℕ)) (findings : List FindingValue)
    → Type 0
AreTold first [] [] findings = findings ≡ []
AreTold first (line ∷ lines) (reply ∷ replies) findings = (told later : List FindingValue)
    × (IsTold first line reply told
    × (AreTold (first + 1) lines replies later × (findings ≡ told ++ later)))
AreTold first lines replies findings = ⊥
