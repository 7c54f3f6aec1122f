-- The command line of `scionet`, as `clap` reads it.
use Rattle.std.specs.Prelude.{◌≡◌, ◌<◌, ◌≤◌, ℕ, pos, true, false, codes, if◌then◌else◌, List, [], ◌∷◌, Option, Some, None, option_map, unwrap_or}
use Rattle.std.specs.Str.{bytes_eq}
use Rattle.clap.specs.Words.{App, Row, Rule, Text, all_of, first_of, new_app, new_rule, subcommand_of, with_rule, with_subcommand}
use Rattle.clap.specs.Kinds.{Kinds}
use Rattle.clap.specs.Simple.{on_top}
use Rattle.clap.specs.Faults.{fault_of}
use Rattle.clap.specs.declared.builder.command.Command.{Command as ClapCommand}
use Rattle.clap.specs.declared.builder.command.Command.TheViews.{out-Command}
use Rattle.clap.specs.declared.builder.action.ArgAction.TheVariants.{Append}
use Rattle.clap.specs.declared.builder.value_parser.ValueParser.TheVariants.{Signed}
use Rattle.refusal.specs.Optional.{◌>>=◌}
use Rattle.step_line.specs.Fields.{bounded_number_at}
use Rattle.step_line.specs.Turn.{StepOptions, Turn, turn_from}
use Rattle.commands.specs.declared.command.Command.{Command as Asked}
use Rattle.commands.specs.declared.command.Command.TheVariants.{Step, Run, Work}

-- no argument of a command is also one of its subcommands
abbrev pub IsLocal : ClapCommand → Type 0
IsLocal command = (out-Command command).has_globals ≡ false

-- an option that has a value and is required
abbrev pub option_rule : Text → Rule
option_rule name = record (new_rule name) { long = Some name; value_names = 1; required = true }

-- an option that has a value and is not required
abbrev pub optional_rule : Text → Rule
optional_rule name = record (new_rule name) { long = Some name; value_names = 1 }

-- a required option whose value is a number from `low` to `most`, and one from 0 to `most`
abbrev pub range_rule : (low most : ℕ) (name : Text) → Rule
range_rule low most name =
    record (option_rule name) { parser = Some (Signed (pos low) (pos most)) }

abbrev pub number_rule : ℕ → Text → Rule
number_rule most name = range_rule 0 most name

-- the interfaces: any number of values
abbrev pub interface_rule : Rule
interface_rule = record (new_rule (codes "interface")) { value_names = 1; action = Some Append }

-- a command with the options of a router and its AS
abbrev pub with_router : App → App
with_router app =
    with_rule (with_rule (with_rule (with_rule app (option_rule (codes "ia")))
    (number_rule 63 (codes "router"))) (option_rule (codes "key")))
    (optional_rule (codes "previous"))

-- a command with the options of a router's turn
abbrev pub with_turn : App → App
with_turn app =
    with_rule (with_rule (with_rule (with_router app) (number_rule 4294967295 (codes "now")))
    (option_rule (codes "from"))) interface_rule

-- `step`, with its options
abbrev pub step_app : App
step_app = with_turn (new_app (codes "step"))

-- `run`, which has no options
abbrev pub run_app : App
run_app = new_app (codes "run")

-- `work`, with its options
abbrev pub work_app : App
work_app = with_rule (with_rule (new_app (codes "work")) (number_rule 4294967295 (codes "workers")))
    (range_rule 1 4096 (codes "slots"))

-- `scionet` with its commands and its version; the words are those after its name
abbrev pub program_app : App
program_app =
    with_subcommand (with_subcommand (with_subcommand
    (on_top (λ shape. record shape {
      no_binary_name = true;
      has_version = true;
    }) (new_app (codes "scionet")))
    step_app.top) run_app.top) work_app.top

-- the texts of the options in these matches
abbrev pub texts_in : List Row → Option StepOptions
texts_in rows = do
  ia ← first_of (codes "ia") rows
  router ← first_of (codes "router") rows
  key ← first_of (codes "key") rows
  now ← first_of (codes "now") rows
  from ← first_of (codes "from") rows
  Some (record {
    ia = ia;
    router = router;
    key = key;
    previous = first_of (codes "previous") rows;
    now = now;
    from = from;
    interfaces = unwrap_or (all_of (codes "interface") rows) [];
  })

-- the turn of these matches
abbrev pub turn_in_rows : List Row → Option Turn
turn_in_rows rows = do
  texts ← texts_in rows
  turn_from texts

-- the numbers of workers and of places in an inbox, from the matches of `work`
abbrev pub work_in : List Row → Option Asked
work_in rows = do
  workers_text ← first_of (codes "workers") rows
  slots_text ← first_of (codes "slots") rows
  workers ← bounded_number_at 0 4294967295 workers_text
  slots ← bounded_number_at 1 4096 slots_text
  Some (Work workers slots)

-- the command with this name and these matches; without a name there is none
abbrev pub command_in : Option (Text × List Row) → Option Asked
command_in None = None
command_in (Some named) =
    if bytes_eq named.0 (codes "run") then Some Run
    else if bytes_eq named.0 (codes "work") then work_in named.1
    else option_map Step (turn_in_rows named.1)

-- the inboxes of the command have 1 to 4,096 places
abbrev pub IsInRange : Asked → Type 0
IsInRange (Work workers slots) = (0 < slots) × (slots ≤ 4096)
IsInRange command = Unit {0}

-- the command, if `clap` finds no fault
abbrev pub unless_faulty : Kinds → Option Asked → Option Asked
unless_faulty [] command = command
unless_faulty (kind ∷ kinds) command = None

-- the command of these words, if `clap` accepts them
abbrev pub named_by : List Text → Option Asked
named_by words =
    unless_faulty (fault_of program_app words) (command_in (subcommand_of program_app words))

-- the command of the words after the program's name; without any it is `run`
unfoldable pub command_or_run : List Text → Option Asked
command_or_run [] = Some Run
command_or_run (word ∷ words) = named_by (word ∷ words)

-- `clap` accepts the words after the program's name
abbrev pub IsCommandLine : List Text → Type 0
IsCommandLine words = fault_of program_app words ≡ []

-- the turn of the command, if it is `step`
abbrev pub turn_asked : Option Asked → Option Turn
turn_asked (Some (Step turn)) = Some turn
turn_asked other = None
