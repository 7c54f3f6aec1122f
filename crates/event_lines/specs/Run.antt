-- A run over streams: the lines that were read, and the replies that were written.
use Rattle.std.specs.Prelude.{◌≡◌, ◌⊎◌, ℕ, ◌+◌, ◌≤◌, Bool, true, false, List, [], ◌∷◌, ◌++◌, length, take, flat_map, ◌==◌, Option, Some, None, Result, Ok, Err}
use Rattle.std.specs.List.{list_any}
use Rattle.std.specs.Io.KnownBytes.{Appends, Consumes, IsAtEnd, Keeps}
use Rattle.streams.specs.Streams.{most_input}
use Rattle.event_lines.specs.declared.fault.RunFault.{RunFault}
use Rattle.event_lines.specs.declared.fault.RunFault.TheVariants as faults
use Rattle.event_lines.specs.declared.accepted.AcceptedLines.{AcceptedLines}
use Rattle.event_lines.specs.declared.accepted.AcceptedLines.TheVariants.{All}
use Rattle.network_core.specs.Value.{NetValue}
use Rattle.event_lines.specs.Answers.{Stage, Open, Closed, GoesOn, RepliesToInput}

-- ---- lines of bytes

-- the end of a line: LF
abbrev pub line_end : ℕ
line_end = 10

-- whether the bytes have the end of a line among them
abbrev pub has_line_end : List ℕ → Bool
has_line_end bytes = list_any (λ b. b == line_end) bytes

-- the bytes of these lines, each with its end
abbrev pub ended_lines : List (List ℕ) → List ℕ
ended_lines lines = flat_map (λ line. line ++ line_end ∷ []) lines

-- the bytes are these lines, each with its end, and after them a rest without an end
pub record AreLines (bytes : List ℕ) (lines : List (List ℕ)) (rest : List ℕ) : Type 0 where
  pub whole : bytes ≡ ended_lines lines ++ rest
  pub apart : list_any has_line_end lines ≡ false
  pub last : has_line_end rest ≡ false

-- the bytes are a line with its end, and the rest after it
pub record IsLineCut (bytes line rest : List ℕ) : Type 0 where
  pub whole : bytes ≡ line ++ line_end ∷ rest
  pub one : has_line_end line ≡ false

-- the lines of an input, the last of which may lack its end; an input without bytes is one empty
-- line
abbrev pub all_lines : List (List ℕ) → List ℕ → List (List ℕ)
all_lines [] rest = rest ∷ []
all_lines (line ∷ lines) [] = line ∷ lines
all_lines (line ∷ lines) (b ∷ rest) = (line ∷ lines) ++ (b ∷ rest) ∷ []

-- these are the first of the lines that were read
abbrev pub AreFirst : List ℕ → List (List ℕ) → Type 0
AreFirst read lines =
    (later : List (List ℕ)) × (rest : List ℕ) × AreLines read (lines ++ later) rest

-- these are the first of the lines that were read, and one more was read, or a beginning of it; if
-- nothing was read yet, that one is an empty line
abbrev pub HaveNext : List ℕ → List (List ℕ) → Type 0
HaveNext read lines =
    (whole : List (List ℕ)) × (rest : List ℕ) × (next : List ℕ) × (later : List (List ℕ))
    × (AreLines read whole rest × (all_lines whole rest ≡ lines ++ next ∷ later))

-- these lines begin with all that had their end before the last read, which brought at most 8,192
-- bytes
abbrev pub BeginWithEarlier : List ℕ → List (List ℕ) → Type 0
BeginWithEarlier read lines =
    (front last : List ℕ) × (earlier later : List (List ℕ)) × (rest : List ℕ)
    × ((read ≡ front ++ last) × ((length last ≤ 8192)
    × (AreLines front earlier rest × (lines ≡ earlier ++ later))))

-- all of the input was read, and these are its lines
abbrev pub AreAll : Type 0 → List ℕ → List (List ℕ) → Type 0
AreAll at_end read lines = (whole : List (List ℕ)) × (rest : List ℕ)
    × (AreLines read whole rest × (at_end × (lines ≡ all_lines whole rest)))

-- these lines were read and answered
abbrev pub AreHeard : Type 0 → List ℕ → List (List ℕ) → Type 0
AreHeard at_end read lines = AreFirst read lines ⊎ AreAll at_end read lines

-- ---- reading

-- the source gave these bytes, and no bytes only at its end; or its read failed
abbrev pub Brings : (brought before after : Option (List ℕ)) (most : ℕ) → Type 0
Brings None before after most = Keeps before after
Brings (Some bytes) before after most =
    Consumes before after bytes × ((bytes ≡ [] → IsAtEnd after) × (length bytes ≤ most))

-- ---- how a run ended

-- exactly the replies to these lines were written, and the run is in this state after them
abbrev pub Wrote : AcceptedLines → List (List ℕ) → List ℕ → Stage → Type 0
Wrote accepted lines went stage =
    (texts : List (List ℕ))
    × (RepliesToInput accepted lines texts stage × (went ≡ ended_lines texts))

-- a beginning of the replies to these lines was written
abbrev pub WroteSome : AcceptedLines → List (List ℕ) → List ℕ → Type 0
WroteSome accepted lines went = (texts : List (List ℕ)) × (stage : Stage) × (n : ℕ)
    × (RepliesToInput accepted lines texts stage × (went ≡ take n (ended_lines texts)))

-- exactly the replies to these lines were written, and the run may go on after them
abbrev pub WroteSoFar : AcceptedLines → List (List ℕ) → List ℕ → Type 0
WroteSoFar accepted lines went =
    (stage : Stage) × (GoesOn stage × Wrote accepted lines went stage)

-- the replies to all complete lines of what was read were written, and the run may go on after them
abbrev pub WroteWhole : (accepted : AcceptedLines) (read went : List ℕ) → Type 0
WroteWhole accepted read went = (lines : List (List ℕ)) × (rest : List ℕ)
    × (AreLines read lines rest × WroteSoFar accepted lines went)

-- what was read and written, by the result of the run. All lines were answered, and the run ended
-- with this network; or the topology was refused; or, if it was not refused, a read failed, the
-- input had more than the largest number of bytes, or memory ran out at a line that had not ended
-- before the last read; or a write failed.
abbrev pub Ends : (accepted : AcceptedLines) (result : Result NetValue RunFault) (at_end : Type 0)
    (read went : List ℕ) → Type 0
Ends accepted (Ok net) at_end read went = (lines : List (List ℕ))
    × (AreAll at_end read lines × Wrote accepted lines went (Open net))
Ends accepted (Err faults.Topology) at_end read went = (lines : List (List ℕ))
    × (AreHeard at_end read lines × Wrote accepted lines went Closed)
Ends accepted (Err faults.Read) at_end read went = WroteWhole accepted read went
Ends accepted (Err faults.InputTooLong) at_end read went = (front : List ℕ) × (byte : ℕ)
    × ((read ≡ front ++ byte ∷ []) × ((length front ≡ most_input) × WroteWhole accepted front went))
Ends accepted (Err faults.Memory) at_end read went = (lines : List (List ℕ))
    × (HaveNext read lines × (BeginWithEarlier read lines × WroteSoFar accepted lines went))
Ends accepted (Err faults.Write) at_end read went = (lines : List (List ℕ))
    × (AreHeard at_end read lines × WroteSome accepted lines went)

-- the largest number of bytes that are read: one more than an input may have, if the input is too
-- long
abbrev pub most_read : {A : Type 0} → Result A RunFault → ℕ
most_read (Err faults.InputTooLong) = most_input + 1
most_read result = most_input

-- a run that accepts these lines. The first two contents are what the source still had before and
-- after it; the last two are what the sink held before and after it.
abbrev pub Listens : (accepted : AcceptedLines) (result : Result NetValue RunFault)
    (before after held holds : Option (List ℕ)) → Type 0
Listens accepted result before after held holds = (read went : List ℕ)
    × (Consumes before after read × (Appends held holds went
    × ((length read ≤ most_read result) × Ends accepted result (IsAtEnd after) read went)))

-- a run that accepts all lines, whatever network it ends with
abbrev pub Runs : (result : Result (Unit {0}) RunFault) (before after held holds : Option (List ℕ))
    → Type 0
Runs (Ok done) before after held holds =
    (net : NetValue) × Listens All (Ok net) before after held holds
Runs (Err fault) before after held holds = Listens All (Err fault) before after held holds

-- whether the run ended because a read failed, and whether because a write failed
abbrev pub is_read_fault : {A : Type 0} → Result A RunFault → Bool
is_read_fault (Err faults.Read) = true
is_read_fault result = false

abbrev pub is_write_fault : {A : Type 0} → Result A RunFault → Bool
is_write_fault (Err faults.Write) = true
is_write_fault result = false
