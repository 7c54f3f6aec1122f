use Rattle.std.proofs.Common.{◌≤◌}
use Rattle.path_verifier.specs.Piece.{PieceValue}
use Rattle.combinator.specs.inner.UsablePieces.{info_number}
use Rattle.combinator.proofs.Collected.{at_end}
use Rattle.combinator.proofs.Greatest.{infos_more}
use Rattle.combinator.proofs.group.least_info.Goals as goal

pub loop-piece-preserved : goal.loop-piece-preserved
loop-piece-preserved c =
    infos_more c.args.pieces.now c.loop-piece.piece-index c.piece-item.result c.loop-piece-test.true c.piece-item.is
    c.loop-piece.least c.min-least.result c.info.result c.min-least.ensures c.info.ensures c.loop-piece.invariant

pub returns : goal.returns
returns c = λ _.
    at_end (λ (piece : PieceValue). c.loop-piece.least ≤ info_number piece)
    c.args.pieces.now c.loop-piece.piece-index c.loop-piece-test.false c.loop-piece.invariant
