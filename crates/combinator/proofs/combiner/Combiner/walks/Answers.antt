use Rattle.std.proofs.Common.{sym, subst}
use Rattle.combinator.specs.Candidate.{Question}
use Rattle.combinator.specs.Combiner.{CombinerValue, asked_of}
use Rattle.combinator.specs.inner.Over.{AreGroupsOf, MaySearch}
use Rattle.combinator.proofs.Choosing.{may_choose}
use Rattle.combinator.proofs.combiner.Combiner.walks.Goals as goal

pub gathered-requires : goal.gathered-requires
gathered-requires g c =
    let usable = c.self.invariant in
    let groups = c.in_ok-groups.groups in
    subst (λ (q : Question). MaySearch q groups) (sym c.request.ensures)
    (subst (λ (of : CombinerValue). MaySearch (asked_of of c.args.policy.now) groups) c.self.view_is
    (may_choose c.self.inside.set.now c.self.inside.src c.self.inside.dst groups c.self.inside.pieces.items
    usable.own usable.live usable.whole usable.fields
    (subst (AreGroupsOf groups) c.deref.ensures.value c.in_ok-groups.ensures) c.args.policy.now))
