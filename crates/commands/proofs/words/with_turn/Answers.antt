-- The arguments are added in turn.
use Rattle.std.proofs.Common.{◌≡◌, ◌∙◌, ap₂, codes}
use Rattle.std.proofs.lemmas.Result.{IfOk-weaker}
use Rattle.clap.specs.Words.{rule_of, with_rule}
use Rattle.commands.specs.Words.{number_rule, option_rule}
use Rattle.commands.proofs.Adding.{still_local}
use Rattle.commands.proofs.words.with_turn.Goals as goal

pub returns-clause-app : goal.returns-clause-app
returns-clause-app c =
    let now : rule_of c.number_option.result ≡ number_rule 4294967295 (codes "now") = c.number_option.ensures.rule in
    let from : rule_of c.option.result ≡ option_rule (codes "from") = c.option.ensures.rule in
    let first =
    c.in_ok-arg.ensures.shape c.number_option.ensures.local ∙ ap₂ with_rule c.in_ok-with_router.ensures.app now in
    let second = c.in_ok-arg-2.ensures.shape c.option.ensures.local ∙ ap₂ with_rule first from in
    IfOk-weaker c.arg-3.result _ _ (λ r adds. adds.shape c.interface_argument.ensures.local
    ∙ ap₂ with_rule second c.interface_argument.ensures.rule) c.arg-3.ensures

pub returns-clause-local : goal.returns-clause-local
returns-clause-local c =
    λ given. (let first = still_local _ _ _ (c.in_ok-with_router.ensures.local given) c.number_option.ensures.local c.in_ok-arg.ensures in
    let second = still_local _ _ _ first c.option.ensures.local c.in_ok-arg-2.ensures in
    IfOk-weaker c.arg-3.result _ _
    (λ r adds. still_local _ r _ second c.interface_argument.ensures.local adds) c.arg-3.ensures)
