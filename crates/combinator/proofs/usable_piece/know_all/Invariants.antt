use Rattle.std.proofs.Common.{take, All}
use Rattle.combinator.specs.inner.Alike.{IsUsable}
use Rattle.combinator.specs.inner.Search.{HasFields}
use Rattle.combinator.proofs.usable_piece.know_all.Given as goal

abbrev pub invariant-loop-piece : goal.invariant-loop-piece
invariant-loop-piece l = record {
  usable : All IsUsable (take l.piece-index l.pieces);
  fields : All HasFields (take l.piece-index l.pieces);
}
