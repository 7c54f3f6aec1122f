use Rattle.std.proofs.Common.{◌≡◌, true, false, length, refl, sym, ap, subst, ◌∙◌, inl, inr}
use Rattle.std.proofs.lemmas.Option.{same_Some, slice_get_read}
use Rattle.policy_expr.specs.Options.{WeighedRules}
use Rattle.combinator.specs.Candidate.{Question}
use Rattle.combinator.specs.Answer.{IsAnswer, question_under}
use Rattle.combinator.proofs.Choosing.{none_there, not_empty}
use Rattle.combinator.proofs.choice.choice_under.Goals as goal

pub returns-then-is_empty : goal.returns-then-is_empty
returns-then-is_empty g c = λ option there.
    let ask = c.args.request.now in
    let options = ask.options.now in
    let seen = c.index-options-place.result in
    let here = slice_get_read options (length options) c.args.place seen refl c.requires.within c.index-options-place.is in
    let question = question_under ask.set.now ask.src ask.dst option in
    let same = c.under.ensures ∙ ap (question_under ask.set.now ask.src ask.dst) (same_Some seen option (sym here ∙ there)) in
    let answer = subst (λ (q : Question). IsAnswer q ask.limit c.in_ok-paths.paths) same c.in_ok-paths.ensures.answer in
    inr (
      c.none.ensures.used,
      c.none.ensures.paths,
      none_there question ask.limit c.in_ok-paths.paths c.requires.some (c.is_empty.ensures.0 c.if-is_empty.true) answer,
    )

pub returns : goal.returns
returns g c = λ option there.
    let ask = c.args.request.now in
    let options = ask.options.now in
    let seen = c.index-options-place.result in
    let here = slice_get_read options (length options) c.args.place seen refl c.requires.within c.index-options-place.is in
    let is = same_Some seen option (sym here ∙ there) in
    let same = c.under.ensures ∙ ap (question_under ask.set.now ask.src ask.dst) is in
    inl (record {
      used = refl;
      weighs = ap (λ (o : WeighedRules). o.weight) (c.option.view_is ∙ is);
      some = not_empty c.in_ok-paths.paths (λ empty. (
          let yes' : c.is_empty.result ≡ true = c.is_empty.ensures.1 empty in
          let clash : true ≡ false = sym yes' ∙ c.if-is_empty.false in
          cc));
      answer = subst (λ (q : Question). IsAnswer q ask.limit c.in_ok-paths.paths) same c.in_ok-paths.ensures.answer;
    })
