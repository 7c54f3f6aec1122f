use Rattle.std.proofs.Common.{take, All, Contains}
use Rattle.path_segment.specs.declared.kind.SegKind.TheVariants.{Intra}
use Rattle.path_server.specs.Lookup.{Selection}
use Rattle.path_verifier.specs.Piece.{PieceValue, kind_in}
use Rattle.combinator.specs.Candidate.{IsOf, segments_of}
use Rattle.combinator.specs.inner.UsablePieces.{IsCut, AreIn}
use Rattle.combinator.proofs.usable_pieces.add_cuts.Given as goal

abbrev pub invariant-loop-segment : goal.invariant-loop-segment
invariant-loop-segment l = record {
  more : AreIn l.initial.usable_pieces.items l.usable_pieces.items;
  own : (set : Selection) → All (Contains (segments_of set (kind_in Intra l.along))) l.segments
      → All (IsOf set) l.initial.usable_pieces.items → All (IsOf set) l.usable_pieces.items;
  all : (piece : PieceValue) → IsCut (take l.segment-index l.segments) l.along l.outer piece
      → Contains l.usable_pieces.items piece;
}
