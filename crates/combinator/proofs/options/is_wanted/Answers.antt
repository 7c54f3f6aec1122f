use Rattle.std.proofs.Common.{◌<◌, ℕ, Option, length, refl, sym, subst, ◌∙◌}
use Rattle.std.specs.Prelude.{◌↔◌, IfSome, IsTrue}
use Rattle.std.proofs.lemmas.Option.{same_Some, slice_get_read}
use Rattle.policy_expr.specs.Options.{WeighedRules}
use Rattle.combinator.specs.Answer.{GoesBefore}
use Rattle.combinator.specs.inner.Choice.{IsWanted}
use Rattle.combinator.proofs.options.is_wanted.Goals as goal

pub returns-in-Some : goal.returns-in-Some
returns-in-Some g c =
    let options = c.args.options.now in
    let best = c.in-Some.other in
    let other = c.index-options-other.result in
    let within = subst (λ (b : Option ℕ). IfSome b (λ place. place < length options)) c.in-Some.is c.requires in
    let there = slice_get_read options (length options) best other refl within c.index-options-other.is in
    subst (λ (b : Option ℕ). IsTrue c.goes_before.result ↔ IsWanted options b c.args.place c.args.option.now) (sym c.in-Some.is) (
      λ yes second at. subst (λ (o : WeighedRules). GoesBefore c.args.place c.args.option.now best o) (same_Some other second (sym there ∙ at)) (c.goes_before.ensures.0 yes),
      λ wanted. c.goes_before.ensures.1 (wanted other there),
    )
