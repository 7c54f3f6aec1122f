-- A run whose lines are told one after another.
use Rattle.std.specs.Prelude.{◌⊎◌, ◌≡◌, ℕ, ◌+◌, ◌||◌, Bool, false, List, [], ◌∷◌, ◌++◌, length, take, Option, Result, Ok, Err}
use Rattle.std.specs.Io.KnownBytes.{Appends, Keeps}
use Rattle.event_lines.specs.declared.fault.RunFault.{RunFault}
use Rattle.event_lines.specs.declared.fault.RunFault.TheVariants as faults
use Rattle.event_lines.specs.declared.accepted.AcceptedLines.TheVariants.{All}
use Rattle.event_lines.specs.declared.line_run.LineRun.{LineRun}
use Rattle.event_lines.specs.Answers.{Stage, Unbegun, Closed, GoesOn}
use Rattle.event_lines.specs.Replies.{RepliesToAll, stage_behind}
use Rattle.event_lines.specs.Run.{AreLines}
use Rattle.event_lines.specs.inner.Session.{HasMore, last_after}
use Rattle.line_faults.specs.declared.finding.FindingForm.{FindingForm}
use Rattle.line_faults.specs.declared.notes.Notes.{Notes}
use Rattle.line_faults.specs.declared.telling.Telling.{Telling}
use Rattle.line_faults.specs.Finding.{FindingValue, all_written, has_any}
use Rattle.line_faults.specs.Explanation.{AreTold, IsTold}

-- how many lines were told, whether something was found in them, and the form of what is found
pub record Tally : Type 0 where
  pub number : ℕ
  pub found : Bool
  pub form : FindingForm

abbrev pub tally_of : Notes → Tally
tally_of notes = record { number = notes.number; found = notes.found; form = notes.form }

-- no lines were told
abbrev pub none_told : FindingForm → Tally
none_told form = record { number = 0; found = false; form = form }

-- this many lines more were told, and these are their findings
abbrev pub with_told : Tally → (count : ℕ) (findings : List FindingValue) → Tally
with_told old count findings =
    record old { number = old.number + count; found = old.found || has_any findings }

-- how far a run is: its state, and what was told
pub record Place : Type 0 where
  pub stage : Stage
  pub tally : Tally

-- before the first line
abbrev pub at_begin : FindingForm → Place
at_begin form = record { stage = Unbegun; tally = none_told form }

abbrev pub stands_at : LineRun → Notes → Place
stands_at run notes = record { stage = stage_behind run; tally = tally_of notes }

-- how far a run is, and the bytes of a line whose end was not read yet
pub record TellingValue : Type 0 where
  pub place : Place
  pub rest : List ℕ

abbrev pub telling_value : Telling → TellingValue
telling_value telling = record {
  place = stands_at telling.run telling.notes;
  rest = telling.rest.items;
}

-- before the first byte
abbrev pub untold : FindingForm → TellingValue
untold form = record { place = at_begin form; rest = [] }

-- what is found in the next line, which has this reply, was added; or memory ran out, and nothing
-- was
abbrev pub TellsReply : Result (Unit {0}) RunFault → (line reply : List ℕ) (old new : Tally)
    (held holds : Option (List ℕ)) → Type 0
TellsReply (Ok done) line reply old new held holds = (findings : List FindingValue)
    × (IsTold (old.number + 1) line reply findings
    × (Appends held holds (all_written old.form findings) × (new ≡ with_told old 1 findings)))
TellsReply (Err faults.Memory) line reply old new held holds = Keeps held holds
TellsReply (Err fault) line reply old new held holds = ⊥

-- these lines were answered from a place on, and what is found in them was added to what was
-- held; the run is at the second place then
pub record TellsLines (lines : List (List ℕ)) (old new : Place) (held holds : Option (List ℕ))
    : Type 0 where
  pub replies : List (List ℕ)
  pub findings : List FindingValue
  pub replied : RepliesToAll All old.stage lines replies new.stage
  pub told : AreTold (old.tally.number + 1) lines replies findings
  pub kept : Appends held holds (all_written old.tally.form findings)
  pub count : new.tally ≡ with_told old.tally (length replies) findings

-- these lines were answered from a place on, and a beginning of what is found in them was written
pub record TellsSome (lines : List (List ℕ)) (old : Place) (held holds : Option (List ℕ))
    : Type 0 where
  pub replies : List (List ℕ)
  pub stage : Stage
  pub findings : List FindingValue
  pub most : ℕ
  pub replied : RepliesToAll All old.stage lines replies stage
  pub told : AreTold (old.tally.number + 1) lines replies findings
  pub kept : Appends held holds (take most (all_written old.tally.form findings))

-- the run of this place, ended by a refused topology
abbrev pub closed_at : Place → Place
closed_at place = record place { stage = Closed }

-- one line was told; or it is a topology that is refused, and was told; or memory ran out
abbrev pub TellsLine : Result (Unit {0}) RunFault → (line : List ℕ) (old new : Place)
    (held holds : Option (List ℕ)) → Type 0
TellsLine (Ok done) line old new held holds = TellsLines (line ∷ []) old new held holds
TellsLine (Err faults.Topology) line old new held holds =
    TellsLines (line ∷ []) old (closed_at new) held holds
TellsLine (Err faults.Memory) line old new held holds = Keeps held holds
TellsLine (Err fault) line old new held holds = ⊥

-- the lines of these bytes were told: all of them; or those up to a topology that is refused; or
-- those before memory ran out, in a run that may go on
abbrev pub TellsBytes : Result (Unit {0}) RunFault → (bytes : List ℕ) (old new : TellingValue)
    (held holds : Option (List ℕ)) → Type 0
TellsBytes (Ok done) bytes old new held holds = (lines : List (List ℕ))
    × (AreLines (old.rest ++ bytes) lines new.rest
    × TellsLines lines old.place new.place held holds)
TellsBytes (Err faults.Topology) bytes old new held holds =
    (lines later : List (List ℕ)) × (rest : List ℕ)
    × (AreLines (old.rest ++ bytes) (lines ++ later) rest
    × TellsLines lines old.place (closed_at new.place) held holds)
TellsBytes (Err faults.Memory) bytes old new held holds =
    (lines later : List (List ℕ)) × (rest : List ℕ) × (at : Place)
    × (AreLines (old.rest ++ bytes) (lines ++ later) rest
    × (HasMore later rest × (GoesOn at.stage × TellsLines lines old.place at held holds)))
TellsBytes (Err fault) bytes old new held holds = ⊥

-- ---- writing

-- a text was written, and is empty then; or a beginning of it was written
abbrev pub Writes : Result (Unit {0}) RunFault → (text left : List ℕ)
    (held holds : Option (List ℕ)) → Type 0
Writes (Ok done) text left held holds = Appends held holds text × (left ≡ [])
Writes (Err faults.Write) text left held holds = (n : ℕ) × Appends held holds (take n text)
Writes (Err fault) text left held holds = ⊥

-- the lines of these bytes were told, and what was said was written, or a beginning of it
abbrev pub Exchanges : Result (Unit {0}) RunFault → (bytes : List ℕ) (old new : TellingValue)
    (held holds : Option (List ℕ)) → Type 0
Exchanges (Err faults.Write) bytes old new held holds =
    (lines later : List (List ℕ)) × (rest : List ℕ)
    × (AreLines (old.rest ++ bytes) (lines ++ later) rest × TellsSome lines old.place held holds)
Exchanges result bytes old new held holds = TellsBytes result bytes old new held holds

-- at the end of the input, the line in the rest was told, if there is one, and what was said was
-- written, or a beginning of it
abbrev pub Finishes : Result (Unit {0}) RunFault → (old : TellingValue) (new : Place)
    (held holds : Option (List ℕ)) → Type 0
Finishes (Ok done) old new held holds =
    TellsLines (last_after old.place.stage old.rest) old.place new held holds
Finishes (Err faults.Write) old new held holds =
    TellsSome (last_after old.place.stage old.rest) old.place held holds ⊎ Keeps held holds
Finishes (Err fault) old new held holds =
    (last_after old.place.stage old.rest ≡ old.rest ∷ [])
    × TellsLine (Err fault) old.rest old.place new held holds
