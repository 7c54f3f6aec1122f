use Rattle.std.proofs.Common.{◌≡◌, ℕ, ◌<◌, All, Contains}
use Rattle.path_server.specs.Lookup.{Selection}
use Rattle.path_verifier.specs.Piece.{kind_in}
use Rattle.combinator.specs.Candidate.{IsOf, segments_of}
use Rattle.combinator.specs.inner.UsablePieces.{piece_of, outer_of, AreIn}
use Rattle.combinator.proofs.usable_pieces.add_pieces_of.Given as goal

abbrev pub invariant-loop-to : goal.invariant-loop-to
invariant-loop-to l = record {
  more : AreIn l.initial.usable_pieces.items l.usable_pieces.items;
  own : (set : Selection) → Contains (segments_of set (kind_in l.segment.kind l.along)) l.segment
      → All (IsOf set) l.initial.usable_pieces.items → All (IsOf set) l.usable_pieces.items;
  all : (from to : ℕ) → from < to → to < l.to → outer_of (piece_of l.segment from to l.along) ≡ l.outer
      → Contains l.usable_pieces.items (piece_of l.segment from to l.along);
}
