use Rattle.std.proofs.Common.{take, All, Contains}
use Rattle.path_server.specs.Lookup.{Selection}
use Rattle.path_verifier.specs.Piece.{PieceValue}
use Rattle.combinator.specs.Candidate.{IsOf}
use Rattle.combinator.specs.inner.UsablePieces.{IsWhole, AreIn}
use Rattle.combinator.proofs.usable_pieces.add_cores.Given as goal

abbrev pub invariant-loop-segment : goal.invariant-loop-segment
invariant-loop-segment l = record {
  more : AreIn l.initial.usable_pieces.items l.usable_pieces.items;
  own : (set : Selection) → All (Contains set.cores) l.segments → All (IsOf set) l.initial.usable_pieces.items
      → All (IsOf set) l.usable_pieces.items;
  all : (piece : PieceValue) → IsWhole (take l.segment-index l.segments) piece → Contains l.usable_pieces.items piece;
}
