use Rattle.std.proofs.Common.{◌≡◌, [], ◌∷◌, ap, sym, subst, ◌∙◌, true, false}
use Rattle.path_verifier.specs.declared.kind.PieceKind.{PieceKind}
use Rattle.path_verifier.specs.Accepted.{MayAdjoin}
use Rattle.combinator.specs.inner.Front.{groups_in}
use Rattle.combinator.proofs.front.Front.may_go_on.Goals as goal

pub returns-in-One : goal.returns-in-One
returns-in-One c = λ no. (
  [],
  c.in-One.last.now,
  ap groups_in c.in-One.is,
  λ may. (let yes = c.may_adjoin.ensures.1 (subst (λ (kind : PieceKind). MayAdjoin kind c.args.kind) (sym c.kind.ensures) may) in let clash : true ≡ false = sym yes ∙ no in cc),
)

pub returns-in-Two : goal.returns-in-Two
returns-in-Two c = λ no. (
  c.in-Two.field-0.now ∷ [],
  c.in-Two.last.now,
  ap groups_in c.in-Two.is,
  λ may. (let yes = c.may_adjoin-in-Two.ensures.1 (subst (λ (kind : PieceKind). MayAdjoin kind c.args.kind) (sym c.kind-in-Two.ensures) may) in let clash : true ≡ false = sym yes ∙ no in cc),
)

pub returns-in-Three : goal.returns-in-Three
returns-in-Three c = λ no. (
  c.in-Three.field-0.now ∷ c.in-Three.field-1.now ∷ [],
  c.in-Three.last.now,
  ap groups_in c.in-Three.is,
  λ may. (let yes = c.may_adjoin-in-Three.ensures.1 (subst (λ (kind : PieceKind). MayAdjoin kind c.args.kind) (sym c.kind-in-Three.ensures) may) in let clash : true ≡ false = sym yes ∙ no in cc),
)
