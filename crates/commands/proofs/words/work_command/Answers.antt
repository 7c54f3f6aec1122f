-- The arguments are added in turn.
use Rattle.std.proofs.Common.{◌≡◌, ◌∙◌, ap₂, codes}
use Rattle.std.proofs.lemmas.Result.{IfOk-weaker}
use Rattle.clap.specs.Words.{rule_of, with_rule}
use Rattle.commands.specs.Words.{number_rule, range_rule}
use Rattle.commands.proofs.Adding.{still_local}
use Rattle.commands.proofs.words.work_command.Goals as goal

pub returns-clause-app : goal.returns-clause-app
returns-clause-app c =
    let workers : rule_of c.number_option.result ≡ number_rule 4294967295 (codes "workers") =
    c.number_option.ensures.rule in
    let slots : rule_of c.range_option.result ≡ range_rule 1 4096 (codes "slots") = c.range_option.ensures.rule in
    let first = c.in_ok-arg.ensures.shape c.number_option.ensures.local ∙ ap₂ with_rule c.new.ensures.app workers in
    IfOk-weaker c.arg-2.result _ _
    (λ r adds. adds.shape c.range_option.ensures.local ∙ ap₂ with_rule first slots) c.arg-2.ensures

pub returns-clause-local : goal.returns-clause-local
returns-clause-local c =
    let first = still_local _ _ _ c.new.ensures.local c.number_option.ensures.local c.in_ok-arg.ensures in
    IfOk-weaker c.arg-2.result _ _ (λ r adds. still_local _ r _ first c.range_option.ensures.local adds) c.arg-2.ensures
