use Rattle.std.proofs.Common.{refl, sym, ◌∙◌, inl, inr}
use Rattle.combinator.proofs.Least.{no_greater_itself, no_greater_back}
use Rattle.combinator.proofs.group.lesser.Goals as goal

pub returns-in_default-clause-piece : goal.returns-in_default-clause-piece
returns-in_default-clause-piece c = no_greater_itself c.args.piece.now

pub returns-in-Greater-clause-some : goal.returns-in-Greater-clause-some
returns-in-Greater-clause-some c =
    rw c.in-Some.is (inr refl, no_greater_back c.in-Some.best.now c.args.piece.now (sym c.compare_fields.ensures ∙ c.in-Greater.is))

pub returns-in-Greater-clause-piece : goal.returns-in-Greater-clause-piece
returns-in-Greater-clause-piece c = no_greater_itself c.args.piece.now

pub returns-in_default-compare_fields : goal.returns-in_default-compare_fields
returns-in_default-compare_fields c = record {
  none = rw c.in-Some.is tt;
  some = rw c.in-Some.is (inl refl, no_greater_itself c.in-Some.best.now);
  piece = λ greater. c.in_default-compare_fields.not-Greater (c.compare_fields.ensures ∙ greater);
}
