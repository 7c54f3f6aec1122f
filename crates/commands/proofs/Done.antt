-- What is answered of one router's turn, of a network's run, and of words that are refused.
use Rattle.std.proofs.Common.{◌≡◌, sym, ap, subst, refl, true, false, ℕ, Bool, List, [], Option, Some, None, arith, ◌∙◌, append-nil}
use Rattle.std.proofs.Math.Bool.{or-false}
use Rattle.std.specs.Prelude.{Result, Ok, Err, IsErrAnd}
use Rattle.std.specs.Io.KnownBytes.{Appends, Consumes, Keeps}
use Rattle.std.proofs.KnownBytes.{Keeps-refl}
use Rattle.streams.specs.declared.fault.InputFault.{InputFault}
use Rattle.streams.specs.declared.fault.InputFault.TheVariants as input
use Rattle.streams.specs.Streams.{AppendsFront}
use Rattle.step_line.specs.declared.fault.TurnFault.{TurnFault}
use Rattle.step_line.specs.declared.fault.TurnFault.TheVariants as turns
use Rattle.step_line.specs.Turn.{Turn}
use Rattle.step_line.specs.Line.{line_of}
use Rattle.step_line.specs.Fault.{PrintsTurn as StepPrints}
use Rattle.event_lines.specs.declared.fault.RunFault.TheVariants as run
use Rattle.event_lines.specs.declared.accepted.AcceptedLines.{AcceptedLines}
use Rattle.event_lines.specs.declared.accepted.AcceptedLines.TheVariants.{All, Preparing}
use Rattle.event_lines.specs.Run.{Listens}
use Rattle.work_lines.specs.declared.fault.WorkFault.TheVariants as work
use Rattle.event_lines.specs.Answers.{Unbegun}
use Rattle.commands.specs.declared.command.Command.{Command}
use Rattle.commands.specs.declared.command.Command.TheVariants as command
use Rattle.commands.specs.declared.fault.WordsFault.{WordsFault}
use Rattle.commands.specs.declared.fault.WordsFault.TheVariants as words
use Rattle.commands.specs.declared.fault.CommandFault.{CommandFault}
use Rattle.commands.specs.declared.fault.CommandFault.TheVariants.{Write, Memory}
use Rattle.commands.specs.Fault.{AsksFor, of_input, of_turn, of_words}
use Rattle.commands.specs.Run.{Change, DoesCommand, IsUntouched, PrintsLine, ReadsInput, SetsFlag, Steps, change_of, whole_line}

-- a stream that is left alone is still
pub IsStill-same : {A : Type 0} (bytes : A → Option (List ℕ)) (failed : A → Bool) (stream : A)
    → IsUntouched (change_of bytes failed stream stream)
IsStill-same bytes failed stream = (Keeps-refl (bytes stream), sym (or-false (failed stream)))

-- what was not read is answered
pub Steps-unread : {A : Type 0} (answer : Result A CommandFault) (fault : InputFault) (turn : Turn) (source sink : Change)
    → IsErrAnd answer (λ e. e ≡ of_input fault) → ReadsInput (Err fault) source → IsUntouched sink
    → Steps answer turn source sink
Steps-unread (Ok x) fault turn source sink is read still = absurd is
Steps-unread (Err e) fault turn source sink is read still = (Err fault, (read, (ap Err is, still)))

-- so is a turn that gave no line
pub Prints-fault : {A : Type 0} (answer : Result A CommandFault) (fault : TurnFault) (line : Option (List ℕ)) (sink : Change)
    → IsErrAnd answer (λ e. e ≡ of_turn fault) → StepPrints {A = List ℕ} (Err fault) line → IsUntouched sink
    → PrintsLine answer line sink
Prints-fault (Ok x) fault line sink is none still = absurd is
Prints-fault (Err e) turns.PacketText line sink is none still = rw (is, none) still
Prints-fault (Err e) turns.Memory line sink is none still = rw is still

-- so is want of memory for the line's end
pub Prints-memory : {A : Type 0} (answer : Result A CommandFault) (line : Option (List ℕ)) (sink : Change)
    → IsErrAnd answer (λ e. e ≡ Memory) → IsUntouched sink → PrintsLine answer line sink
Prints-memory (Ok x) line sink is still = absurd is
Prints-memory (Err e) line sink is still = rw is still

-- so is a write that failed
pub Prints-unwritten : {A : Type 0} (answer : Result A CommandFault) (line : Option (List ℕ)) (text bytes : List ℕ) (sink : Change)
    → IsErrAnd answer (λ e. e ≡ Write) → line ≡ Some text → bytes ≡ whole_line text
    → AppendsFront sink.old sink.new bytes
    → SetsFlag sink true → PrintsLine answer line sink
Prints-unwritten (Ok x) line text bytes sink is some whole front flag = absurd is
Prints-unwritten (Err e) line text bytes sink is some whole front flag = rw (is, some, ← whole) (front, flag)

Consumes-none : (old new : Option (List ℕ)) → Keeps old new → Consumes old new []
Consumes-none None new keeps = tt
Consumes-none (Some x) None keeps = absurd keeps
Consumes-none (Some x) (Some y) keeps = sym keeps

-- so is want of memory before a network's first line is read
Appends-none : (old new : Option (List ℕ)) → Keeps old new → Appends old new []
Appends-none None new keeps = tt
Appends-none (Some x) None keeps = absurd keeps
Appends-none (Some x) (Some y) keeps = keeps ∙ sym (append-nil x)

Listens-unbegun : (accepted : AcceptedLines) (before after held holds : Option (List ℕ)) → Keeps before after
    → Keeps held holds
    → Listens accepted (Err run.Memory) before after held holds
Listens-unbegun accepted before after held holds still quiet = (
  [],
  [],
  (
    Consumes-none before after still,
    (
      Appends-none held holds quiet,
      (
        omega arith,
        (
          [],
          (
            ([], [], [], [], (record { whole = refl; apart = refl; last = refl }, refl)),
            (
              (
                [],
                [],
                [],
                [],
                [],
                (refl, (omega arith, (record { whole = refl; apart = refl; last = refl }, refl))),
              ),
              (Unbegun, (tt, ([], ((refl, refl), refl)))),
            ),
          ),
        ),
      ),
    ),
  ),
)

Does-memory : (asked : Option Command) (source sink : Change) → IsUntouched source → IsUntouched sink
    → DoesCommand (Err Memory) asked source sink
Does-memory None source sink still quiet = (tt, (still, quiet))
Does-memory (Some command.Run) source sink still quiet =
    (Err run.Memory, (refl, (Listens-unbegun All source.old source.new sink.old sink.new still.0 quiet.0, (still.1, quiet.1))))
Does-memory (Some (command.Work workers slots)) source sink still quiet = (
  Err (work.Lines run.Memory),
  (refl, (Listens-unbegun Preparing source.old source.new sink.old sink.new still.0 quiet.0, (still.1, quiet.1))),
)
Does-memory (Some (command.Step turn)) source sink still quiet =
    (Err input.Memory, ((([], (Consumes-none _ _ still.0, omega arith)), still.1), (refl, quiet)))

-- words that are refused are answered before anything is read
pub Does-refused : (answer : Result (Unit {0}) CommandFault) (fault : WordsFault) (asked : Option Command) (source sink : Change)
    → IsErrAnd answer (λ e. e ≡ of_words fault) → AsksFor (Err fault) asked → IsUntouched source → IsUntouched sink
    → DoesCommand answer asked source sink
Does-refused (Ok x) fault asked source sink is refused still quiet = absurd is
Does-refused (Err e) (words.Usage text) asked source sink is refused still quiet = rw (is, refused) (tt, (still, quiet))
Does-refused (Err e) words.NoCommand asked source sink is refused still quiet = rw (is, refused) (tt, (still, quiet))
Does-refused (Err e) words.Memory asked source sink is refused still quiet =
    rw is (Does-memory asked source sink still quiet)

-- a turn of which the input was read answers its line
pub Steps-read : {A : Type 0} (answer : Result A CommandFault) (turn : Turn) (source sink : Change) (bytes text : List ℕ)
    → ReadsInput (Ok bytes) source → text ≡ bytes → PrintsLine answer (line_of turn text) sink
    → Steps answer turn source sink
Steps-read answer turn source sink bytes text read same prints =
    (Ok bytes, (read, subst (λ t. PrintsLine answer (line_of turn t) sink) same prints))

-- a line that was written is printed
pub Prints-written : {A : Type 0} (x : A) (line : Option (List ℕ)) (text bytes : List ℕ) (sink : Change)
    → line ≡ Some text → bytes ≡ whole_line text → Appends sink.old sink.new bytes → SetsFlag sink false
    → PrintsLine (Ok x) line sink
Prints-written x line text bytes sink some whole appended flag = rw (some, ← whole) (appended, flag)
