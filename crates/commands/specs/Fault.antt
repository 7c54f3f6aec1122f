-- The results of reading the words of a command line, and the messages about faults.
use Rattle.std.specs.Prelude.{◌≡◌, ◌≢◌, ℕ, codes, List, Option, Some, None, Result, Ok, Err, String}
use Rattle.std.specs.String.{string_bytes}
use Rattle.clap.specs.Words.{kind_of}
use Rattle.clap.specs.declared.error.Error.{Error}
use Rattle.clap.specs.declared.error.kind.ErrorKind.TheVariants.{OutOfMemory}
use Rattle.streams.specs.declared.fault.InputFault.{InputFault}
use Rattle.streams.specs.declared.fault.InputFault.TheVariants as input
use Rattle.step_line.specs.declared.fault.TurnFault.{TurnFault}
use Rattle.step_line.specs.declared.fault.TurnFault.TheVariants as turns
use Rattle.event_lines.specs.declared.fault.RunFault.{RunFault}
use Rattle.event_lines.specs.declared.fault.RunFault.TheVariants as run
use Rattle.work_lines.specs.declared.fault.WorkFault.{WorkFault}
use Rattle.work_lines.specs.declared.fault.WorkFault.TheVariants as work
use Rattle.step_line.specs.Turn.{Turn}
use Rattle.step_line.specs.Line.{line_of}
use Rattle.commands.specs.declared.command.Command.{Command}
use Rattle.commands.specs.declared.fault.WordsFault.{WordsFault}
use Rattle.commands.specs.declared.fault.WordsFault.TheVariants as words
use Rattle.commands.specs.declared.fault.CommandFault.{CommandFault}
use Rattle.commands.specs.declared.fault.CommandFault.TheVariants.{Usage, NoCommand, PacketText, Topology, Workers, Read, Write, InputTooLong, Memory}
use Rattle.commands.specs.declared.step_fault.StepFault.{StepFault}
use Rattle.commands.specs.declared.step_fault.StepFault.TheVariants as step
use Rattle.commands.specs.declared.status.Status.{Status}
use Rattle.commands.specs.declared.status.Status.TheVariants.{Done, Failed, Refused}

-- ---- words

-- the fault is our own and not one of `clap`: the words are no command, or memory ran out
abbrev pub IsOwnWordsFault : WordsFault → Type 0
IsOwnWordsFault (words.Usage text) = ⊥
IsOwnWordsFault fault = Unit {0}

-- the fault is not that for which `clap` refuses words
abbrev pub IsOwnFault : CommandFault → Type 0
IsOwnFault (Usage text) = ⊥
IsOwnFault fault = Unit {0}

-- the same of the fault of a turn
abbrev pub IsOwnStepFault : StepFault → Type 0
IsOwnStepFault (step.Usage text) = ⊥
IsOwnStepFault fault = Unit {0}

-- a fault of usage is one for which `clap` refuses the words
abbrev pub Explains : WordsFault → Error → Type 0
Explains (words.Usage text) error = kind_of error ≢ OutOfMemory
Explains words.NoCommand error = ⊥
Explains words.Memory error = Unit {0}

-- the words are this command, they are refused, or memory ran out
abbrev pub AsksFor : Result Command WordsFault → Option Command → Type 0
AsksFor (Ok command) asked = asked ≡ Some command
AsksFor (Err (words.Usage text)) asked = asked ≡ None
AsksFor (Err words.NoCommand) asked = asked ≡ None
AsksFor (Err words.Memory) asked = Unit {0}

-- the line of the turn in the words was returned; or the words have no turn; or they have one, and
-- the packet's text is no packet; or memory ran out
abbrev pub AnswersTurn : {A : Type 0} → Result (String A) StepFault → Option Turn → List ℕ → Type 0
AnswersTurn (Ok line) asked packet =
    (turn : Turn) × ((asked ≡ Some turn) × (line_of turn packet ≡ Some (string_bytes line)))
AnswersTurn (Err (step.Usage text)) asked packet = asked ≡ None
AnswersTurn (Err step.NoCommand) asked packet = asked ≡ None
AnswersTurn (Err step.PacketText) asked packet =
    (turn : Turn) × ((asked ≡ Some turn) × (line_of turn packet ≡ None))
AnswersTurn (Err step.Memory) asked packet = Unit {0}

-- ---- faults

-- the fault of a command whose words are refused
abbrev pub of_words : WordsFault → CommandFault
of_words (words.Usage text) = Usage text
of_words words.NoCommand = NoCommand
of_words words.Memory = Memory

-- the fault of a turn whose words are refused
abbrev pub step_of_words : WordsFault → StepFault
step_of_words (words.Usage text) = step.Usage text
step_of_words words.NoCommand = step.NoCommand
step_of_words words.Memory = step.Memory

-- the fault of a turn that gave no line
abbrev pub step_of_turn : TurnFault → StepFault
step_of_turn turns.PacketText = step.PacketText
step_of_turn turns.Memory = step.Memory

-- the fault of a command whose input was not read to its end
abbrev pub of_input : InputFault → CommandFault
of_input input.Read = Read
of_input input.TooLong = InputTooLong
of_input input.Memory = Memory

-- the fault of a command whose turn gave no line
abbrev pub of_turn : TurnFault → CommandFault
of_turn turns.PacketText = PacketText
of_turn turns.Memory = Memory

-- the fault of a command whose run ended before its input did
abbrev pub of_run : RunFault → CommandFault
of_run run.Topology = Topology
of_run run.Read = Read
of_run run.Write = Write
of_run run.Memory = Memory
of_run run.InputTooLong = InputTooLong

-- the fault of a command whose flights were not carried, or not reported
abbrev pub of_work : WorkFault → CommandFault
of_work (work.Lines fault) = of_run fault
of_work work.Workers = Workers
of_work work.Memory = Memory
of_work work.Write = Write

-- the message about words that are no command, if `clap` has none
abbrev pub usage_text : List ℕ
usage_text = codes "scionet: usage\n"

-- the message about a fault on standard error
abbrev pub text_of_fault : CommandFault → List ℕ
text_of_fault (Usage text) = string_bytes text
text_of_fault NoCommand = usage_text
text_of_fault PacketText = codes "scionet: bad packet text\n"
text_of_fault Topology = codes "scionet: topology refused\n"
text_of_fault Workers = codes "scionet: workers refused\n"
text_of_fault Memory = codes "scionet: out of memory\n"
text_of_fault Read = codes "scionet: read failed\n"
text_of_fault Write = codes "scionet: write failed\n"
text_of_fault InputTooLong = codes "scionet: input too long\n"

-- the status for a fault
abbrev pub status_of : CommandFault → Status
status_of (Usage text) = Refused
status_of NoCommand = Refused
status_of fault = Failed

-- the exit status of the program
abbrev pub exit_code : Status → ℕ
exit_code Done = 0
exit_code Failed = 1
exit_code Refused = 2
