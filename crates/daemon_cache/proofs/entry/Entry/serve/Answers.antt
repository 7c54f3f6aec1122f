use Rattle.std.proofs.Common.{refl, sym, ap, subst}
use Rattle.std.proofs.lemmas.Result.{IfOk-weaker}
use Rattle.combinator.specs.Answer.{AnswerValue}
use Rattle.daemon_cache.specs.Request.{RequestValue, IsAnswerToRequest}
use Rattle.daemon_cache.specs.inner.Entry.{CachedAnswer}
use Rattle.daemon_cache.specs.inner.Kept.{answer_in}
use Rattle.daemon_cache.proofs.Lookups.{served_answers}
use Rattle.daemon_cache.proofs.entry.Entry.serve.Goals as goal

pub returns-clause-answers : goal.returns-clause-answers
returns-clause-answers c =
    let own = c.self.inside in
    let answer = answer_in own.set own.option own.paths.items in
    let same = c.if-not-are_of_one.ensures.0 refl in
    let answers = served_answers own.request own.set c.args.set.now answer c.self.invariant.0 same c.requires in
    let its : IsAnswerToRequest c.args.request.now c.args.set.now answer =
    subst (λ (r : RequestValue). IsAnswerToRequest r c.args.set.now answer) (c.if-not-is_of.ensures.0 refl) answers in
    let mine = subst (λ (a : AnswerValue). IsAnswerToRequest c.args.request.now c.args.set.now a)
    (ap (λ (v : CachedAnswer). v.answer) c.self.view_is) its in
    IfOk-weaker c.answer.result _ _
    (λ given is. subst (IsAnswerToRequest c.args.request.now c.args.set.now) (sym is) mine) c.answer.ensures
