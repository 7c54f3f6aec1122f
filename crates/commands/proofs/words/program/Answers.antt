-- The texts of help are no part of what a parse reads.
use Rattle.std.proofs.Common.{◌∙◌, ap, ap₂, true}
use Rattle.std.proofs.lemmas.Result.{IfOk-weaker}
use Rattle.clap.specs.Words.{App, with_subcommand}
use Rattle.clap.specs.Simple.{app_of_fields, on_top}
use Rattle.clap.specs.declared.builder.command.Command.{Command}
use Rattle.clap.specs.declared.builder.command.Command.TheOpen.{Command-F}
use Rattle.commands.specs.Words.{with_turn}
use Rattle.commands.proofs.words.program.Goals as goal

pub returns : goal.returns
returns c =
    let step =
    ap app_of_fields c.after_long_help-2.ensures ∙ (ap app_of_fields c.about-2.ensures ∙ (c.in_ok-with_turn.ensures.app ∙ ap with_turn c.new-2.ensures.app)) in
    let local = ap (λ (f : Command-F Command). f.has_globals) c.after_long_help-2.ensures
    ∙ (ap (λ (f : Command-F Command). f.has_globals) c.about-2.ensures ∙ c.in_ok-with_turn.ensures.local c.new-2.ensures.local) in
    let work =
    ap app_of_fields c.after_long_help-3.ensures ∙ (ap app_of_fields c.about-3.ensures ∙ c.in_ok-work_command.ensures.app) in
    let work_local = ap (λ (f : Command-F Command). f.has_globals) c.after_long_help-3.ensures
    ∙ (ap (λ (f : Command-F Command). f.has_globals) c.about-3.ensures ∙ c.in_ok-work_command.ensures.local) in
    let bare = ap app_of_fields c.no_binary_name.ensures
    ∙ (ap (λ (f : Command-F Command). app_of_fields (record f { no_binary_name = true })) c.in_ok-bin_name.ensures.0
    ∙ ap (on_top (λ shape. record shape { no_binary_name = true })) c.new.ensures.app) in
    let top = ap app_of_fields c.after_long_help.ensures ∙ (ap app_of_fields c.about.ensures
    ∙ (ap app_of_fields c.version.ensures ∙ ap (on_top (λ shape. record shape { has_version = true })) bare)) in
    let first = c.in_ok-subcommand.ensures.shape local ∙ ap₂ with_subcommand top (ap (λ (a : App). a.top) step) in
    let second = c.in_ok-subcommand-2.ensures.shape c.run_command.ensures.local
    ∙ ap₂ with_subcommand first (ap (λ (a : App). a.top) c.run_command.ensures.app) in
    IfOk-weaker c.subcommand-3.result _ _ (λ r adds. adds.shape work_local
    ∙ ap₂ with_subcommand second (ap (λ (a : App). a.top) work)) c.subcommand-3.ensures
