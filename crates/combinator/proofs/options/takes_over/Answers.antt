use Rattle.std.proofs.Common.{◌≡◌, true, false, sym, ap, subst, ◌∙◌}
use Rattle.policy_expr.specs.Options.{WeighedRules}
use Rattle.policy_expr.specs.Policy.{Rules}
use Rattle.combinator.specs.inner.Choice.{Allows}
use Rattle.combinator.proofs.options.takes_over.Goals as goal

pub returns-clause-yes : goal.returns-clause-yes
returns-clause-yes g c = λ yes. (
  c.is_wanted.ensures.0 c.if-not-is_wanted.false,
  subst (λ (rules : Rules). Allows rules c.args.walk.now) (ap (λ (o : WeighedRules). o.rules) c.option.view_is) (c.allows.ensures.0 yes),
)

pub returns-clause-no : goal.returns-clause-no
returns-clause-no g c = λ never wanted allowed.
    let yes : c.allows.result ≡ true =
    c.allows.ensures.1 (subst (λ (rules : Rules). Allows rules c.args.walk.now) (sym (ap (λ (o : WeighedRules). o.rules) c.option.view_is)) allowed) in
    let clash : true ≡ false = sym yes ∙ never in
    cc
