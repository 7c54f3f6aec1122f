use Rattle.std.proofs.Common.{◌≤◌, take, Contains}
use Rattle.path_verifier.specs.Piece.{PieceValue}
use Rattle.combinator.specs.inner.UsablePieces.{info_number}
use Rattle.combinator.proofs.group.least_info.Given as goal

abbrev pub invariant-loop-piece : goal.invariant-loop-piece
invariant-loop-piece l = (piece : PieceValue) → Contains (take l.piece-index l.pieces) piece → l.least ≤ info_number piece
