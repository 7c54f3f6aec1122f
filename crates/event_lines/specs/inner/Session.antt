-- Contracts of the private calls of a run (words of no public clause).
use Rattle.std.specs.Prelude.{◌≡◌, ◌⊎◌, ℕ, List, [], ◌∷◌, ◌++◌, take, Option, Result, Ok, Err}
use Rattle.std.specs.Io.KnownBytes.{Appends, Keeps}
use Rattle.network_core.specs.Value.{NetValue}
use Rattle.std.specs.String.{string_bytes}
use Rattle.event_lines.specs.declared.session.Session.{Session}
use Rattle.event_lines.specs.declared.fault.RunFault.{RunFault}
use Rattle.event_lines.specs.declared.fault.RunFault.TheVariants as faults
use Rattle.event_lines.specs.declared.accepted.AcceptedLines.{AcceptedLines}
use Rattle.event_lines.specs.Replies.{RepliesTo, RepliesToAll, stage_behind}
use Rattle.event_lines.specs.Answers.{Stage, Unbegun, Open, Closed, GoesOn}
use Rattle.event_lines.specs.Run.{AreLines, Listens, ended_lines, line_end}

-- the first line begins this network, whatever lines are accepted; or its topology was refused; or
-- memory ran out
abbrev pub Begins : AcceptedLines → Result NetValue RunFault → (line reply : List ℕ) → Type 0
Begins accepted (Ok net) line reply = RepliesTo accepted Unbegun line reply (Open net)
Begins accepted (Err faults.Topology) line reply = RepliesTo accepted Unbegun line reply Closed
Begins accepted (Err faults.Memory) line reply = Unit {0}
Begins accepted (Err fault) line reply = ⊥

-- one line was answered, and the value gives the state of the run; or the topology was refused; or
-- memory ran out
abbrev pub RepliesOrFails : {A : Type 0} → AcceptedLines → (A → Stage) → Result A RunFault → Stage
    → List ℕ
    → List ℕ → List ℕ → Type 0
RepliesOrFails accepted stage (Ok x) old line before after = (text : List ℕ)
    × (RepliesTo accepted old line text (stage x) × (after ≡ before ++ (text ++ line_end ∷ [])))
RepliesOrFails accepted stage (Err faults.Topology) old line before after = (text : List ℕ)
    × (RepliesTo accepted old line text Closed × (after ≡ before ++ (text ++ line_end ∷ [])))
RepliesOrFails accepted stage (Err faults.Memory) old line before after = after ≡ before
RepliesOrFails accepted stage (Err fault) old line before after = ⊥

-- a run's state, the bytes of a line whose end was not read yet, and the replies that are not
-- written yet
pub record SessionValue : Type 0 where
  pub stage : Stage
  pub rest : List ℕ
  pub replies : List ℕ

-- the value of a session
abbrev pub session_value : Session → SessionValue
session_value session =
    record {
      stage = stage_behind session.run;
      rest = session.rest.items;
      replies = string_bytes session.replies;
    }

-- a session that has not begun
abbrev pub unbegun_session : SessionValue
unbegun_session = record { stage = Unbegun; rest = []; replies = [] }

-- these lines were answered after the earlier ones, and these replies are not written yet
pub record AnswersLines (accepted : AcceptedLines) (lines : List (List ℕ)) (old : SessionValue)
    (stage : Stage)
    (replies : List ℕ) : Type 0 where
  pub texts : List (List ℕ)
  pub told : RepliesToAll accepted old.stage lines texts stage
  pub kept : replies ≡ old.replies ++ ended_lines texts

-- lines were read, or a beginning of one
abbrev pub HasMore : List (List ℕ) → List ℕ → Type 0
HasMore [] [] = ⊥
HasMore lines rest = Unit {0}

-- the lines of these bytes were answered: all of them; or those up to a topology that was refused;
-- or those before memory ran out, in a run that may go on
abbrev pub AnswersBytes : AcceptedLines → Result (Unit {0}) RunFault → List ℕ → SessionValue
    → SessionValue
    → Type 0
AnswersBytes accepted (Ok done) bytes old new = (lines : List (List ℕ))
    × (AreLines (old.rest ++ bytes) lines new.rest
    × AnswersLines accepted lines old new.stage new.replies)
AnswersBytes accepted (Err faults.Topology) bytes old new =
    (lines later : List (List ℕ)) × (rest : List ℕ)
    × (AreLines (old.rest ++ bytes) (lines ++ later) rest
    × AnswersLines accepted lines old Closed new.replies)
AnswersBytes accepted (Err faults.Memory) bytes old new =
    (lines later : List (List ℕ)) × (rest : List ℕ)
    × ((stage : Stage)
    × (AreLines (old.rest ++ bytes) (lines ++ later) rest
    × (HasMore later rest × (GoesOn stage
    × AnswersLines accepted lines old stage new.replies))))
AnswersBytes accepted (Err fault) bytes old new = ⊥

-- the line in the rest after the last end; none if it is empty and the run has begun
abbrev pub last_after : Stage → List ℕ → List (List ℕ)
last_after Unbegun rest = rest ∷ []
last_after stage [] = []
last_after stage (b ∷ rest) = (b ∷ rest) ∷ []

-- the line in the rest of this session
abbrev pub last_lines : SessionValue → List (List ℕ)
last_lines session = last_after session.stage session.rest

-- the run has begun, and the rest has no line
pub record IsRunDone (session : SessionValue) (net : NetValue) : Type 0 where
  pub begun : session.stage ≡ Open net
  pub none : last_lines session ≡ []

-- ---- streams

-- the replies that were not written yet were written, or a beginning of them
abbrev pub WritesRest : Result (Unit {0}) RunFault → SessionValue → SessionValue → Option (List ℕ)
    → Option (List ℕ) → Type 0
WritesRest (Ok done) old new held holds =
    Appends held holds old.replies × (new ≡ record old { replies = [] })
WritesRest (Err faults.Write) old new held holds = (n : ℕ) × Appends held holds (take n old.replies)
WritesRest (Err fault) old new held holds = ⊥

-- these lines were answered after the earlier ones, and the replies were written
pub record Passes (accepted : AcceptedLines) (lines : List (List ℕ)) (old : SessionValue)
    (stage : Stage)
    (held holds : Option (List ℕ)) : Type 0 where
  pub texts : List (List ℕ)
  pub told : RepliesToAll accepted old.stage lines texts stage
  pub kept : Appends held holds (ended_lines texts)

-- these lines were answered after the earlier ones, and a beginning of the replies was written
pub record PassesSome (accepted : AcceptedLines) (lines : List (List ℕ)) (old : SessionValue)
    (held holds : Option (List ℕ)) : Type 0 where
  pub texts : List (List ℕ)
  pub stage : Stage
  pub told : RepliesToAll accepted old.stage lines texts stage
  pub most : ℕ
  pub kept : Appends held holds (take most (ended_lines texts))

-- the lines of these bytes were answered, and the replies written: all; or those up to a topology
-- that was refused; or those before memory ran out, in a run that may go on; or a beginning of the
-- replies. No reply is left that was not written, unless a write failed.
abbrev pub Exchanges : AcceptedLines → Result (Unit {0}) RunFault → List ℕ → SessionValue
    → SessionValue
    → Option (List ℕ) → Option (List ℕ) → Type 0
Exchanges accepted (Ok done) bytes old new held holds = (lines : List (List ℕ))
    × (AreLines (old.rest ++ bytes) lines new.rest
    × (Passes accepted lines old new.stage held holds × (new.replies ≡ [])))
Exchanges accepted (Err faults.Topology) bytes old new held holds =
    (lines later : List (List ℕ)) × (rest : List ℕ)
    × (AreLines (old.rest ++ bytes) (lines ++ later) rest
    × (Passes accepted lines old Closed held holds × (new.replies ≡ [])))
Exchanges accepted (Err faults.Memory) bytes old new held holds =
    (lines later : List (List ℕ)) × (rest : List ℕ)
    × ((stage : Stage)
    × (AreLines (old.rest ++ bytes) (lines ++ later) rest
    × (HasMore later rest × (GoesOn stage
    × (Passes accepted lines old stage held holds × (new.replies ≡ []))))))
Exchanges accepted (Err faults.Write) bytes old new held holds =
    (lines later : List (List ℕ)) × (rest : List ℕ)
    × (AreLines (old.rest ++ bytes) (lines ++ later) rest
    × PassesSome accepted lines old held holds)
Exchanges accepted (Err fault) bytes old new held holds = ⊥

-- at the end of the input, the line in the rest was answered, if there is one, and its reply
-- written; the run has this network then. Memory runs out only if there is one.
abbrev pub Finishes : AcceptedLines → Result (Unit {0}) RunFault → SessionValue → Stage
    → Option (List ℕ)
    → Option (List ℕ) → Type 0
Finishes accepted (Ok done) old stage held holds = (net : NetValue)
    × ((stage ≡ Open net) × Passes accepted (last_lines old) old (Open net) held holds)
Finishes accepted (Err faults.Topology) old stage held holds =
    Passes accepted (last_lines old) old Closed held holds
Finishes accepted (Err faults.Memory) old stage held holds =
    (last_lines old ≡ old.rest ∷ []) × Keeps held holds
Finishes accepted (Err faults.Write) old stage held holds =
    PassesSome accepted (last_lines old) old held holds ⊎ Keeps held holds
Finishes accepted (Err fault) old stage held holds = ⊥

-- the lines of a source were answered in a session that had not begun, and it stands in a network
-- then; or a fault came
abbrev pub Hears : AcceptedLines → Result (Unit {0}) RunFault → Stage → Option (List ℕ)
    → Option (List ℕ) → Option (List ℕ) → Option (List ℕ) → Type 0
Hears accepted (Ok done) stage before after held holds =
    (net : NetValue) × ((stage ≡ Open net) × Listens accepted (Ok net) before after held holds)
Hears accepted (Err fault) stage before after held holds =
    Listens accepted (Err fault) before after held holds
