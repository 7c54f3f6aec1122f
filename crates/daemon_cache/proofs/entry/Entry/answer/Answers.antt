use Rattle.std.proofs.Common.{◌<◌, List, length, get_or, ap, ◌∙◌, subst}
use Rattle.daemon_cache.specs.declared.kept.KeptPath.{KeptPath}
use Rattle.daemon_cache.specs.inner.Kept.{answer_in}
use Rattle.daemon_cache.proofs.KeptPaths.{answers_are_sent, kept_is_sent}
use Rattle.daemon_cache.proofs.entry.Entry.answer.Goals as goal

pub path_in-requires-clause-sent : goal.path_in-requires-clause-sent
path_in-requires-clause-sent c =
    let own = c.self.inside in
    let kept = c.kept-item.result in
    let i = c.loop-kept.kept-index in
    let same = c.deref-kept-items.ensures.value in
    kept_is_sent own.set own.paths.items kept i
    (answers_are_sent own.request own.set (answer_in own.set own.option own.paths.items) c.self.invariant.0.answers)
    (subst (λ (l : List KeptPath). i < length l) same c.loop-kept-test.true)
    (c.kept-item.is ∙ ap (λ (l : List KeptPath). get_or l i kept) same)
