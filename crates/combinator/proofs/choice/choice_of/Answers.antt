use Rattle.std.proofs.Common.{◌≡◌, subst}
use Rattle.std.specs.Prelude.{IfSome, slice_get}
use Rattle.policy_expr.specs.Options.{WeighedRules}
use Rattle.combinator.specs.Candidate.{AreSpelled}
use Rattle.combinator.specs.Answer.{AnswersWith, question_under}
use Rattle.combinator.specs.Choice.{ChosenValue}
use Rattle.combinator.specs.inner.Over.{AreGroupsOf}
use Rattle.combinator.proofs.Choosing.{IsChoiceAt, answers_none, answers_under, each_spelled, has_weight, may_choose, on_ok}
use Rattle.combinator.proofs.choice.choice_of.Goals as goal

pub option_to_try-requires : goal.option_to_try-requires
option_to_try-requires g c =
    let ask = c.args.request.now in
    let pieces = c.in_ok-pieces.ensures in
    may_choose ask.set.now ask.src ask.dst c.in_ok-groups.groups c.in_ok-pieces.pieces.items pieces.own pieces.live pieces.whole pieces.fields
    (subst (AreGroupsOf c.in_ok-groups.groups) c.deref.ensures.value c.in_ok-groups.ensures)

pub choice_under-requires-clause-search : goal.choice_under-requires-clause-search
choice_under-requires-clause-search g c =
    let ask = c.args.request.now in
    let pieces = c.in_ok-pieces.ensures in
    may_choose ask.set.now ask.src ask.dst c.in_ok-groups.groups c.in_ok-pieces.pieces.items pieces.own pieces.live pieces.whole pieces.fields
    (subst (AreGroupsOf c.in_ok-groups.groups) c.deref.ensures.value c.in_ok-groups.ensures)

pub returns-in-Some-clause-answers : goal.returns-in-Some-clause-answers
returns-in-Some-clause-answers g c =
    let ask = c.args.request.now in
    let options = ask.options.now in
    on_ok (IsChoiceAt ask.set.now ask.src ask.dst options ask.limit c.in-Some.place)
    (λ (choice : ChosenValue). AnswersWith ask.set.now ask.src ask.dst options ask.limit choice.used choice.paths)
    c.choice_under.result
    (λ choice is. answers_under ask.set.now ask.src ask.dst options ask.limit c.in-Some.place c.in-Some.ensures.within choice is
    c.in-Some.ensures.leaves c.in-Some.ensures.none)
    c.choice_under.ensures

pub returns-in-Some-clause-weight : goal.returns-in-Some-clause-weight
returns-in-Some-clause-weight g c =
    let ask = c.args.request.now in
    let options = ask.options.now in
    on_ok (IsChoiceAt ask.set.now ask.src ask.dst options ask.limit c.in-Some.place)
    (λ (choice : ChosenValue). IfSome choice.used (λ used. IfSome (slice_get options used) (λ option. choice.weight ≡ option.weight)))
    c.choice_under.result
    (λ choice is. has_weight ask.set.now ask.src ask.dst options ask.limit c.in-Some.place c.in-Some.ensures.within choice is)
    c.choice_under.ensures

pub returns-clause-answers : goal.returns-clause-answers
returns-clause-answers g c =
    let ask = c.args.request.now in
    answers_none ask.set.now ask.src ask.dst ask.options.now ask.limit c.none.result.used c.none.result.paths
    c.none.ensures.used c.none.ensures.paths c.in-None.ensures.none

pub returns-in-Some-clause-spelled : goal.returns-in-Some-clause-spelled
returns-in-Some-clause-spelled g c =
    let ask = c.args.request.now in
    let pieces = c.in_ok-pieces.ensures in
    let search = may_choose ask.set.now ask.src ask.dst c.in_ok-groups.groups c.in_ok-pieces.pieces.items pieces.own pieces.live pieces.whole pieces.fields
    (subst (AreGroupsOf c.in_ok-groups.groups) c.deref.ensures.value c.in_ok-groups.ensures) in
    on_ok (IsChoiceAt ask.set.now ask.src ask.dst ask.options.now ask.limit c.in-Some.place)
    (λ choice. (option : WeighedRules) → AreSpelled (question_under ask.set.now ask.src ask.dst option))
    c.choice_under.result (λ choice is. each_spelled ask.set.now ask.src ask.dst c.in_ok-groups.groups search) c.choice_under.ensures

pub returns-clause-spelled : goal.returns-clause-spelled
returns-clause-spelled g c =
    let ask = c.args.request.now in
    let pieces = c.in_ok-pieces.ensures in
    each_spelled ask.set.now ask.src ask.dst c.in_ok-groups.groups
    (may_choose ask.set.now ask.src ask.dst c.in_ok-groups.groups c.in_ok-pieces.pieces.items pieces.own pieces.live pieces.whole pieces.fields
    (subst (AreGroupsOf c.in_ok-groups.groups) c.deref.ensures.value c.in_ok-groups.ensures))
