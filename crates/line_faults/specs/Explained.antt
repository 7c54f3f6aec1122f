-- What is said of the lines of a source, as they are answered.
use Rattle.std.specs.Prelude.{◌≡◌, ℕ, ◌≤◌, Bool, List, [], ◌∷◌, ◌++◌, length, take, Option, Result, Ok, Err}
use Rattle.std.specs.Io.KnownBytes.{Appends, Consumes, IsAtEnd}
use Rattle.streams.specs.Streams.{most_input}
use Rattle.event_lines.specs.declared.fault.RunFault.{RunFault}
use Rattle.event_lines.specs.declared.fault.RunFault.TheVariants as faults
use Rattle.event_lines.specs.declared.accepted.AcceptedLines.TheVariants.{All}
use Rattle.event_lines.specs.Answers.{Stage, Closed, GoesOn, RepliesToInput}
use Rattle.event_lines.specs.Run.{AreAll, AreHeard, AreLines, HaveNext, most_read}
use Rattle.line_faults.specs.declared.finding.FindingForm.{FindingForm}
use Rattle.line_faults.specs.Finding.{FindingValue, all_written, has_any}
use Rattle.line_faults.specs.Explanation.{AreTold}

-- the text is what is found in these lines of an input, from its first line on, by the replies that
-- they have in a run, which is in this state after them
pub record Explains (form : FindingForm) (lines : List (List ℕ)) (stage : Stage) (text : List ℕ)
    : Type 0 where
  pub replies : List (List ℕ)
  pub findings : List FindingValue
  pub replied : RepliesToInput All lines replies stage
  pub told : AreTold 1 lines replies findings
  pub says : text ≡ all_written form findings

-- the text is about all complete lines of what was read, and the run may go on after them
abbrev pub ExplainsWhole : (form : FindingForm) (read text : List ℕ) → Type 0
ExplainsWhole form read text = (lines : List (List ℕ)) × (rest : List ℕ) × (stage : Stage)
    × (AreLines read lines rest × (GoesOn stage × Explains form lines stage text))

-- what was read and written, by the result: what is found in all lines, and whether that is
-- something; or in those up to a topology that was refused; or, if a read failed, the input had
-- more than the largest number of bytes, or memory ran out at a line of which nothing was said yet,
-- in those before; or a beginning of it, if a write failed
abbrev pub ExplainsRead : (form : FindingForm) (result : Result Bool RunFault) (at_end : Type 0)
    (read went : List ℕ) → Type 0
ExplainsRead form (Ok found) at_end read went = (lines : List (List ℕ)) × (stage : Stage)
    × (AreAll at_end read lines × (GoesOn stage
    × ((one : Explains form lines stage went) × (found ≡ has_any one.findings))))
ExplainsRead form (Err faults.Topology) at_end read went = (lines : List (List ℕ))
    × (AreHeard at_end read lines × Explains form lines Closed went)
ExplainsRead form (Err faults.Read) at_end read went = ExplainsWhole form read went
ExplainsRead form (Err faults.InputTooLong) at_end read went = (front : List ℕ) × (byte : ℕ)
    × ((read ≡ front ++ byte ∷ []) × ((length front ≡ most_input)
    × ExplainsWhole form front went))
ExplainsRead form (Err faults.Memory) at_end read went = (lines : List (List ℕ)) × (stage : Stage)
    × (HaveNext read lines × (GoesOn stage × Explains form lines stage went))
ExplainsRead form (Err faults.Write) at_end read went = (lines : List (List ℕ)) × (stage : Stage)
    × (text : List ℕ) × (n : ℕ)
    × (AreHeard at_end read lines × (Explains form lines stage text × (went ≡ take n text)))

-- the lines of a source were answered and explained. The first two contents are what the source
-- still had before and after it; the last two are what the sink held before and after it.
abbrev pub AreExplained : (form : FindingForm) (result : Result Bool RunFault)
    (before after held holds : Option (List ℕ)) → Type 0
AreExplained form result before after held holds = (read went : List ℕ)
    × (Consumes before after read × (Appends held holds went
    × ((length read ≤ most_read result) × ExplainsRead form result (IsAtEnd after) read went)))
