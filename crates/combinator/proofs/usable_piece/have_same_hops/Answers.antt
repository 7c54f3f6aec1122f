use Rattle.std.proofs.Common.{sym, ◌∙◌}
use Rattle.std.proofs.lemmas.Bool.{not-false, eqb-true}
use Rattle.path_verifier.specs.Walk.{hops_of}
use Rattle.combinator.proofs.Same.{same_first, same_more, same_all}
use Rattle.combinator.proofs.usable_piece.have_same_hops.Goals as goal

pub loop-place-init : goal.loop-place-init
loop-place-init c = same_first c.args.one.now c.args.other.now c.requires.range c.requires.also c.requires.begins

pub loop-place-preserved : goal.loop-place-preserved
loop-place-preserved c =
    same_more (hops_of c.args.one.now) (hops_of c.args.other.now) c.loop-place.place
    c.hop.result c.hop-in-loop-place.result c.hop-hop.result c.hop-next.result
    c.loop-place.auto.place c.loop-place.invariant
    c.hop.ensures c.hop-in-loop-place.ensures c.hop-hop.ensures c.hop-next.ensures
    (eqb-true _ _ (not-false _ (sym c.ne.ensures ∙ c.if-ne.false)))
    (eqb-true _ _ (not-false _ (sym c.ne-in-loop-place.ensures ∙ c.if-ne-2.false)))
    (eqb-true _ _ (not-false _ (sym c.ne-else-ne-2.ensures ∙ c.if-ne-3.false)))

pub returns : goal.returns
returns c = λ _.
    same_all c.args.one.now c.args.other.now c.loop-place.place
    (rw (sym c.len-place-end.ensures.value) c.loop-place-test.false) c.requires.len c.loop-place.invariant
