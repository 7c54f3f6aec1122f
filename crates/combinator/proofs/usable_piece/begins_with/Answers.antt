use Rattle.std.proofs.Common.{sym, ◌∙◌}
use Rattle.std.proofs.lemmas.Bool.{not-true, eqb-false}
use Rattle.combinator.proofs.Left.{too_short, here_agree}
use Rattle.combinator.proofs.usable_piece.begins_with.Goals as goal
use Rattle.combinator.proofs.usable_piece.begins_with.Goals.{then-ne-via-then-ne, then-ne-via-else-ne+then-ne-2}

pub returns-then-rest-len : goal.returns-then-rest-len
returns-then-rest-len c = λ _. too_short c.args.rest.now c.args.piece.now (rw (sym c.len-len.ensures.value) c.if-rest-len.true)

pub returns-then-ne : goal.returns-then-ne
returns-then-ne c = λ _ hop later are same.
    let parts = here_agree c.args.rest.now c.args.piece.now c.loop-place.place c.len-len.result
    c.index-rest-place.result c.hop-hop.result c.loop-place.auto.place c.len-len.ensures.value c.loop-place-test.true
    c.if-rest-len.false c.index-rest-place.is c.hop-hop.ensures hop later are same in
    elim c.then-ne.branch [
      | then-ne-via-then-ne w ↦ eqb-false _ _ (not-true _ (sym c.ne.ensures ∙ w.if-ne.true)) parts.0
      | then-ne-via-else-ne+then-ne-2 w ↦ eqb-false _ _ (not-true _ (sym w.ne-else-ne.ensures ∙ w.if-ne-2.true)) parts.1
    ]

pub returns-then-ne-3 : goal.returns-then-ne-3
returns-then-ne-3 c = λ _ hop later are same.
    let parts = here_agree c.args.rest.now c.args.piece.now c.loop-place.place c.len-len.result
    c.index-rest-place.result c.hop-hop.result c.loop-place.auto.place c.len-len.ensures.value c.loop-place-test.true
    c.if-rest-len.false c.index-rest-place.is c.hop-hop.ensures hop later are same in
    eqb-false _ _ (not-true _ (sym c.ne-then-place-len.ensures ∙ c.if-ne-3.true)) (parts.2 c.if-place-len.true)
