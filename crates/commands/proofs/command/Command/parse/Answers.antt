-- The matches are those of the command line that `command_or_run` names.
use Rattle.std.proofs.Common.{◌∙◌, sym, ap, subst, map, List, rules}
use Rattle.std.specs.Prelude.{Ok, Err}
use Rattle.clap.specs.Words.{App, is_simple, subcommand_of, Text}
use Rattle.clap.specs.Faults.{fault_of, is_simple_and_free}
use Rattle.clap.specs.Kinds.{HasKind}
use Rattle.commands.specs.declared.fault.WordsFault.TheVariants.{NoCommand}
use Rattle.commands.proofs.Asked.{Asks-words, asked-nothing, named-found, named-refused, told-refused, is_program_free, is_program_simple}
use Rattle.commands.proofs.command.Command.parse.Goals as goal

pub returns-then-is_empty-clause-asks : goal.returns-then-is_empty-clause-asks
returns-then-is_empty-clause-asks c = asked-nothing _ _ (search (rules, c.if-is_empty.ensures))

pub returns-in-Err-clause-asks : goal.returns-in-Err-clause-asks
returns-in-Err-clause-asks c =
    let words : List Text = map (λ word. word.now) c.args.words.now in
    let app = c.in_ok-program.ensures in
    let has =
    subst (λ (a : App). HasKind (fault_of a words) c.in-Err.error) app (c.in-Err.ensures.kinds (ap is_simple_and_free app ∙ is_program_free)) in
    Asks-words c.args.words.now (λ word. word.now) (Err c.explain_refusal.result)
    (search (rules, c.if-is_empty.ensures))
    (named-refused words c.in-Err.error c.explain_refusal.result c.explain_refusal.ensures has)

pub returns-in-Err-clause-usage : goal.returns-in-Err-clause-usage
returns-in-Err-clause-usage c accepted =
    let words : List Text = map (λ word. word.now) c.args.words.now in
    let app = c.in_ok-program.ensures in
    let has =
    subst (λ (a : App). HasKind (fault_of a words) c.in-Err.error) app (c.in-Err.ensures.kinds (ap is_simple_and_free app ∙ is_program_free)) in
    told-refused words c.in-Err.error c.explain_refusal.result c.explain_refusal.ensures has accepted

pub returns-in-Some-clause-asks : goal.returns-in-Some-clause-asks
returns-in-Some-clause-asks c =
    let words : List Text = map (λ word. word.now) c.args.words.now in
    let app = c.in_ok-program.ensures in
    let none =
    ap (λ (a : App). fault_of a words) (sym app) ∙ c.in-Ok.ensures.kinds (ap is_simple_and_free app ∙ is_program_free) in
    let found =
    (c.in-Ok.ensures.matches (ap is_simple app ∙ is_program_simple)).1 ∙ ap (λ (a : App). subcommand_of a words) app in
    Asks-words c.args.words.now (λ word. word.now) (Ok c.in-Some.command)
    (search (rules, c.if-is_empty.ensures))
    (named-found words _ _ none found c.in_ok-command.ensures.value ∙ c.in-Some.is)

pub returns-clause-asks : goal.returns-clause-asks
returns-clause-asks c =
    let words : List Text = map (λ word. word.now) c.args.words.now in
    let app = c.in_ok-program.ensures in
    let none =
    ap (λ (a : App). fault_of a words) (sym app) ∙ c.in-Ok.ensures.kinds (ap is_simple_and_free app ∙ is_program_free) in
    let found =
    (c.in-Ok.ensures.matches (ap is_simple app ∙ is_program_simple)).1 ∙ ap (λ (a : App). subcommand_of a words) app in
    Asks-words c.args.words.now (λ word. word.now) (Err NoCommand)
    (search (rules, c.if-is_empty.ensures))
    (named-found words _ _ none found c.in_ok-command.ensures.value ∙ c.in-None.is)
