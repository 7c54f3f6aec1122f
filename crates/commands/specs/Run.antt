-- A run of the program: what it does with its words and its standard input.
use Rattle.std.specs.Prelude.{◌≡◌, ◌||◌, ℕ, Bool, true, false, codes, List, ◌++◌, Option, Some, None, Result, Ok, Err}
use Rattle.std.specs.Io.KnownBytes.{Appends, Keeps}
use Rattle.streams.specs.declared.fault.InputFault.{InputFault}
use Rattle.streams.specs.Streams.{AppendsFront, ReadsAll, is_failed_read, most_input}
use Rattle.step_line.specs.Turn.{Turn}
use Rattle.step_line.specs.Line.{line_of}
use Rattle.event_lines.specs.declared.fault.RunFault.{RunFault}
use Rattle.event_lines.specs.Run.{Runs, is_read_fault, is_write_fault}
use Rattle.work_lines.specs.declared.fault.WorkFault.{WorkFault}
use Rattle.work_lines.specs.Work as work
use Rattle.commands.specs.declared.command.Command.{Command}
use Rattle.commands.specs.declared.command.Command.TheVariants as command
use Rattle.commands.specs.declared.fault.CommandFault.{CommandFault}
use Rattle.commands.specs.declared.fault.CommandFault.TheVariants.{Usage, NoCommand, PacketText, Write, Memory}
use Rattle.commands.specs.declared.status.Status.{Status}
use Rattle.commands.specs.declared.status.Status.TheVariants.{Done}
use Rattle.commands.specs.Fault.{of_input, of_run, of_work, status_of, text_of_fault}

-- ---- streams

-- the change of a stream in a call: its bytes, if they are known, and its flag of failure, before
-- and after
pub record Change : Type 0 where
  pub old : Option (List ℕ)
  pub new : Option (List ℕ)
  pub had_failed : Bool
  pub has_failed : Bool

-- the change of a stream, from the functions for its bytes and its flag
abbrev pub change_of : {A : Type 0} → (bytes : (A → Option (List ℕ))) (failed : (A → Bool))
    (before after : A) → Change
change_of bytes failed before after =
    record {
      old = bytes before;
      new = bytes after;
      had_failed = failed before;
      has_failed = failed after;
    }

-- the flag is set if and only if it was set before or this is true
abbrev pub SetsFlag : Change → Bool → Type 0
SetsFlag change fails = change.has_failed ≡ (change.had_failed || fails)

-- nothing was read or written, and nothing failed
abbrev pub IsUntouched : Change → Type 0
IsUntouched change = Keeps change.old change.new × SetsFlag change false

-- ---- one router's turn

-- the input was read to its end, or the result says why not
abbrev pub ReadsInput : Result (List ℕ) InputFault → Change → Type 0
ReadsInput read source =
    ReadsAll (λ bytes. bytes) most_input read source.old source.new
    × SetsFlag source (is_failed_read read)

-- the line with its end
abbrev pub whole_line : List ℕ → List ℕ
whole_line line = line ++ codes "\n"

-- the line was written; or not all of it, because a write failed; or there is no line; or memory
-- ran out, and nothing was written
abbrev pub PrintsLine : {A : Type 0} → Result A CommandFault → Option (List ℕ) → Change → Type 0
PrintsLine (Ok x) (Some line) sink = Appends sink.old sink.new (whole_line line)
    × SetsFlag sink false
PrintsLine (Err Write) (Some line) sink =
    AppendsFront sink.old sink.new (whole_line line) × SetsFlag sink true
PrintsLine (Err PacketText) None sink = IsUntouched sink
PrintsLine (Err Memory) line sink = IsUntouched sink
PrintsLine answer line sink = ⊥

-- the line of the packet that was read is printed; or the result is the fault of the read
abbrev pub PrintsOf : {A : Type 0} → Result A CommandFault → Turn
    → Result (List ℕ) InputFault → Change → Type 0
PrintsOf answer turn (Ok bytes) sink = PrintsLine answer (line_of turn bytes) sink
PrintsOf answer turn (Err fault) sink = (answer ≡ Err (of_input fault)) × IsUntouched sink

-- one router's turn: the line of the packet on the whole input is printed, or the result says why
-- not
abbrev pub Steps : {A : Type 0} → (answer : Result A CommandFault) (turn : Turn)
    (source sink : Change) → Type 0
Steps answer turn source sink =
    (read : Result (List ℕ) InputFault) × (ReadsInput read source × PrintsOf answer turn read sink)

-- ---- a network's run

-- the result of a command from that of its run
abbrev pub after_run : {A : Type 0} → Result A RunFault → Result A CommandFault
after_run (Ok done) = Ok done
after_run (Err fault) = Err (of_run fault)

-- a network's run: the lines of the source are answered on the sink, or the result says why not
abbrev pub AnswersSource : (answer : Result (Unit {0}) CommandFault) (source sink : Change) → Type 0
AnswersSource answer source sink = (run : Result (Unit {0}) RunFault)
    × ((answer ≡ after_run run)
    × (Runs run source.old source.new sink.old sink.new
    × (SetsFlag source (is_read_fault run) × SetsFlag sink (is_write_fault run))))

-- the result of a command from that of its run with workers
abbrev pub after_work : Result (Unit {0}) WorkFault → Result (Unit {0}) CommandFault
after_work (Ok done) = Ok done
after_work (Err fault) = Err (of_work fault)

-- a network's run with `workers` workers and inboxes of `slots` places: the lines of the source
-- that prepare the network are answered on the sink, and the ends of the flights are reported
-- there; or the result says why not
abbrev pub CarriesPackets : (answer : Result (Unit {0}) CommandFault) (workers slots : ℕ)
    (source sink : Change) → Type 0
CarriesPackets answer workers slots source sink = (run : Result (Unit {0}) WorkFault)
    × ((answer ≡ after_work run)
    × (work.Works run workers slots source.old source.new sink.old sink.new
    × (SetsFlag source (work.is_work_read_fault run)
    × SetsFlag sink (work.is_work_write_fault run))))

-- ---- the program

-- the words are refused, or memory ran out
abbrev pub IsNoCommand : {A : Type 0} → Result A CommandFault → Type 0
IsNoCommand (Err (Usage text)) = Unit {0}
IsNoCommand (Err NoCommand) = Unit {0}
IsNoCommand (Err Memory) = Unit {0}
IsNoCommand answer = ⊥

-- the words are refused, and nothing was read or written
abbrev pub Refuses : {A : Type 0} → (answer : Result A CommandFault) (source sink : Change) → Type 0
Refuses answer source sink = IsNoCommand answer × (IsUntouched source × IsUntouched sink)

-- the command of the words was carried out, or the result says why not; words that are no command
-- are refused
abbrev pub DoesCommand : (answer : Result (Unit {0}) CommandFault) (command : Option Command)
    (source sink : Change) → Type 0
DoesCommand answer None source sink = Refuses answer source sink
DoesCommand answer (Some command.Run) source sink = AnswersSource answer source sink
DoesCommand answer (Some (command.Work workers slots)) source sink =
    CarriesPackets answer workers slots source sink
DoesCommand answer (Some (command.Step turn)) source sink = Steps answer turn source sink

-- the message was written to standard error, whole if no write failed
abbrev pub Tells : List ℕ → Change → Type 0
Tells message errors = AppendsFront errors.old errors.new message
    × (errors.has_failed ≡ false → Appends errors.old errors.new message)

-- the message about the fault was written to standard error
abbrev pub TellsOf : CommandFault → Change → Type 0
TellsOf fault errors = Tells (text_of_fault fault) errors

-- if the result is a fault, there is a message about it, and else none
abbrev pub TellsFault : {A : Type 0} → Result A CommandFault → Change → Type 0
TellsFault (Ok x) errors = IsUntouched errors
TellsFault (Err fault) errors = TellsOf fault errors

-- the status for a result
abbrev pub status_after : {A : Type 0} → Result A CommandFault → Status
status_after (Ok x) = Done
status_after (Err fault) = status_of fault

-- the end of a run: the command was carried out or not, a fault has its message, and the status is
-- that of the result
pub record EndsWith (status : Status) (asked : Option Command) (source sink errors : Change)
    : Type 0 where
  pub answer : Result (Unit {0}) CommandFault
  pub does : DoesCommand answer asked source sink
  pub tells : TellsFault answer errors
  pub ended : status ≡ status_after answer
