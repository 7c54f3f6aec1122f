use Rattle.combinator.specs.inner.Alike.{IsUsable}
use Rattle.combinator.specs.inner.Search.{HasFields}
use Rattle.combinator.proofs.Collected.{all_more, all_taken}
use Rattle.combinator.proofs.usable_piece.know_all.Goals as goal

pub loop-piece-preserved : goal.loop-piece-preserved
loop-piece-preserved c = record {
  usable = all_more IsUsable c.args.pieces.now c.loop-piece.piece-index c.piece-item.result c.loop-piece-test.true
      c.piece-item.is c.loop-piece.invariant.usable c.known.ensures.usable;
  fields = all_more HasFields c.args.pieces.now c.loop-piece.piece-index c.piece-item.result c.loop-piece-test.true
      c.piece-item.is c.loop-piece.invariant.fields c.known.ensures.fields;
}

pub returns-clause-usable : goal.returns-clause-usable
returns-clause-usable c =
    all_taken IsUsable c.args.pieces.now c.loop-piece.piece-index c.loop-piece-test.false c.loop-piece.invariant.usable

pub returns-clause-fields : goal.returns-clause-fields
returns-clause-fields c =
    all_taken HasFields c.args.pieces.now c.loop-piece.piece-index c.loop-piece-test.false c.loop-piece.invariant.fields
