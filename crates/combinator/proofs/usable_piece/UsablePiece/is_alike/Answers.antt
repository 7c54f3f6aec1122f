use Rattle.std.proofs.Common.{◌≡◌, Bool, true, false, not, refl, sym, subst, ◌∙◌}
use Rattle.std.specs.Prelude.{◌↔◌, IsTrue}
use mathlib.Core.Bool.{beq}
use Rattle.path_verifier.specs.Piece.{PieceValue}
use Rattle.combinator.specs.inner.Alike.{AreAlike}
use Rattle.combinator.proofs.Same.{alike_by_hops}
use Rattle.combinator.proofs.Ranked.{same_rank}
use Rattle.combinator.proofs.usable_piece.UsablePiece.is_alike.Goals as goal

same_answer : {P Q : Type 0} (a b : Bool) → not (beq a b) ≡ false → IsTrue a ↔ P → IsTrue b ↔ Q → P ↔ Q
same_answer true true same one two = (λ p. two.0 refl, λ q. one.0 refl)
same_answer true false same one two = absurd cc
same_answer false true same one two = absurd cc
same_answer false false same one two = (λ p. absurd (let is = one.1 p in cc), λ q. absurd (let is = two.1 q in cc))

pub have_same_hops-requires-clause-len : goal.have_same_hops-requires-clause-len
have_same_hops-requires-clause-len c =
    (same_rank c.self.inside.piece c.other.inside.piece c.self.invariant.0.range c.self.invariant.4
    c.other.invariant.0.range c.other.invariant.4 (sym c.self.invariant.3 ∙ c.if-self-other-2.false ∙ c.other.invariant.3)).1

pub returns : goal.returns
returns c = λ is.
    let one = c.self.inside.piece in
    let other = c.other.inside.piece in
    subst (λ (p : PieceValue). AreAlike p c.args.other.now) c.self.view_is
    (subst (λ (p : PieceValue). AreAlike one p) c.other.view_is
    (alike_by_hops one other
    (same_rank one other c.self.invariant.0.range c.self.invariant.4
    c.other.invariant.0.range c.other.invariant.4 (sym c.self.invariant.3 ∙ c.if-self-other-2.false ∙ c.other.invariant.3)).0
    (same_answer c.begins_first.result c.begins_first-2.result c.if-begins_first.false c.begins_first.ensures c.begins_first-2.ensures)
    (c.have_same_hops.ensures is)))
