-- What a parse of the words says of what they ask for.
use Rattle.std.proofs.Common.{◌≡◌, ◌∙◌, sym, ap, refl, subst, true, List, [], ◌∷◌, length, map, Option, Some, None, inl, inr, arith}
use Rattle.std.specs.Prelude.{◌≢◌, Result, Err}
use Rattle.clap.specs.Words.{Row, Text, is_simple, subcommand_of}
use Rattle.clap.specs.Faults.{fault_of, is_simple_and_free}
use Rattle.clap.specs.Kinds.{HasKind, IsAmong, Kinds}
use Rattle.clap.specs.declared.error.Error.{Error}
use Rattle.clap.specs.declared.error.kind.ErrorKind.{ErrorKind}
use Rattle.clap.proofs.OnLiterals.{clap_on_literals}
use Rattle.commands.specs.declared.command.Command.{Command}
use Rattle.commands.specs.declared.command.Command.TheVariants.{Run}
use Rattle.commands.specs.declared.fault.WordsFault.{WordsFault}
use Rattle.commands.specs.declared.fault.WordsFault.TheVariants.{Usage, NoCommand, Memory}
use Rattle.commands.specs.Words.{command_or_run, command_in, named_by, program_app, unless_faulty}
use Rattle.commands.specs.Fault.{AsksFor, Explains, IsOwnWordsFault}

-- the command line is one whose matches and faults `clap` states
pub is_program_simple : is_simple program_app ≡ true
unfolding clap_on_literals
is_program_simple = refl

pub is_program_free : is_simple_and_free program_app ≡ true
unfolding clap_on_literals
is_program_free = refl

none_of : (kinds : Kinds) (kind : ErrorKind) (command : Option Command) → IsAmong kind kinds
    → unless_faulty kinds command ≡ None
none_of [] kind command among = absurd among
none_of (k ∷ ks) kind command among = refl

-- no words ask for a run
pub asked-nothing : {A : Type 0} (text : A → Text) (words : List A) → length words ≡ 0
    → command_or_run (map text words) ≡ Some Run
unfolding command_or_run
asked-nothing text [] none = refl
asked-nothing text (word ∷ words) none = absurd (omega (none, arith))

-- words ask for what they name
pub asked-words : {A : Type 0} (text : A → Text) (words : List A) → length words ≢ 0
    → command_or_run (map text words) ≡ named_by (map text words)
unfolding command_or_run
asked-words text [] some = absurd (some refl)
asked-words text (word ∷ words) some = refl

pub Asks-words : {A : Type 0} (words : List A) (text : A → Text) (answer : Result Command WordsFault) → length words ≢ 0
    → AsksFor answer (named_by (map text words)) → AsksFor answer (command_or_run (map text words))
Asks-words words text answer some asks = subst (AsksFor answer) (sym (asked-words text words some)) asks

-- words that `clap` refuses name nothing
pub named-refused : (words : List Text) (error : Error) (fault : WordsFault) → Explains fault error
    → HasKind (fault_of program_app words) error → AsksFor (Err fault) (named_by words)
named-refused words error (Usage text) differs has = elim has [
  | inl memory ↦ absurd (differs memory)
  | inr among ↦ none_of (fault_of program_app words) _ _ among
]
named-refused words error NoCommand explained has = absurd explained
named-refused words error Memory explained has = tt

-- it has a fault of its own for them, or memory ran out
pub told-refused : (words : List Text) (error : Error) (fault : WordsFault) → Explains fault error
    → HasKind (fault_of program_app words) error → fault_of program_app words ≡ [] → IsOwnWordsFault fault
told-refused words error (Usage text) differs has none = elim has [
  | inl memory ↦ absurd (differs memory)
  | inr among ↦ absurd (subst (IsAmong _) none among)
]
told-refused words error NoCommand explained has none = tt
told-refused words error Memory explained has none = tt

-- words that `clap` accepts name what the matches name
pub named-found : (words : List Text) (found : Option (Text × List Row)) (command : Option Command)
    → fault_of program_app words ≡ [] → found ≡ subcommand_of program_app words → command ≡ command_in found
    → named_by words ≡ command
named-found words found command none is named =
    ap (λ kinds. unless_faulty kinds (command_in (subcommand_of program_app words))) none
    ∙ (ap command_in (sym is) ∙ sym named)
