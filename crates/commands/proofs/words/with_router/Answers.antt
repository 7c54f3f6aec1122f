-- The arguments are added in turn.
use Rattle.std.proofs.Common.{◌≡◌, ◌∙◌, ap₂, codes, refl}
use Rattle.std.proofs.lemmas.Result.{IfOk-weaker}
use Rattle.clap.specs.Words.{rule_of, with_rule}
use Rattle.commands.specs.Words.{number_rule, option_rule, optional_rule}
use Rattle.commands.proofs.Adding.{still_local}
use Rattle.commands.proofs.words.with_router.Goals as goal

pub returns-clause-app : goal.returns-clause-app
returns-clause-app c =
    let ia : rule_of c.option.result ≡ option_rule (codes "ia") = c.option.ensures.rule in
    let router : rule_of c.number_option.result ≡ number_rule 63 (codes "router") = c.number_option.ensures.rule in
    let key : rule_of c.option-2.result ≡ option_rule (codes "key") = c.option-2.ensures.rule in
    let previous : rule_of c.optional.result ≡ optional_rule (codes "previous") = c.optional.ensures.rule in
    let first = c.in_ok-arg.ensures.shape c.option.ensures.local ∙ ap₂ with_rule refl ia in
    let second = c.in_ok-arg-2.ensures.shape c.number_option.ensures.local ∙ ap₂ with_rule first router in
    let third = c.in_ok-arg-3.ensures.shape c.option-2.ensures.local ∙ ap₂ with_rule second key in
    IfOk-weaker c.arg-4.result _ _
    (λ r adds. adds.shape c.optional.ensures.local ∙ ap₂ with_rule third previous) c.arg-4.ensures

pub returns-clause-local : goal.returns-clause-local
returns-clause-local c =
    λ given. (let first = still_local _ _ _ given c.option.ensures.local c.in_ok-arg.ensures in
    let second = still_local _ _ _ first c.number_option.ensures.local c.in_ok-arg-2.ensures in
    let third = still_local _ _ _ second c.option-2.ensures.local c.in_ok-arg-3.ensures in
    IfOk-weaker c.arg-4.result _ _ (λ r adds. still_local _ r _ third c.optional.ensures.local adds) c.arg-4.ensures)
