use Rattle.std.proofs.Common.{[], sym, subst, ◌∙◌}
use Rattle.combinator.specs.Answer.{IsAnswer}
use Rattle.combinator.specs.inner.Search.{IsMetBy}
use Rattle.combinator.proofs.Answering.{answer}
use Rattle.combinator.proofs.Over.{to_pieces}
use Rattle.combinator.proofs.answer.answer.Goals as goal

pub returns-clause-answer : goal.returns-clause-answer
returns-clause-answer g c =
    let question = c.args.ask.now in
    let limit = c.args.limit in
    let search = c.requires.search in
    let first = c.in_ok-first.first.items in
    let kept = c.in_ok-first.ensures.kept in
    subst (IsAnswer question limit) (sym (c.in_ok-verified_paths.ensures ∙ c.deref.ensures.value))
    (answer question limit search.usable_pieces first search.own search.whole search.spelled kept.order kept.few kept.best
    (to_pieces (IsMetBy question limit first) c.args.groups.now search.usable_pieces search.are.each search.are.grouped 3 [] [] question.src tt
    c.in_ok-first.ensures.met))

pub returns-clause-spelled : goal.returns-clause-spelled
returns-clause-spelled g c = c.requires.search.spelled
