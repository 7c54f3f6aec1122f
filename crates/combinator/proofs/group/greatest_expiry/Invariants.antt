use Rattle.std.proofs.Common.{◌≡◌, ◌≤◌, ℕ, [], ◌∷◌, take, Contains}
use Rattle.std.specs.Prelude.{◌⊎◌}
use Rattle.path_verifier.specs.Piece.{PieceValue}
use Rattle.path_verifier.specs.Accepted.{LastTo}
use Rattle.combinator.proofs.group.greatest_expiry.Given as goal

abbrev pub invariant-loop-piece : goal.invariant-loop-piece
invariant-loop-piece l = record {
  over : (piece : PieceValue) → Contains (take l.piece-index l.pieces) piece
      → (later : ℕ) → LastTo later (piece ∷ []) → later ≤ l.greatest;
  reached : (l.greatest ≡ 0) ⊎ ((piece : PieceValue) × Contains (take l.piece-index l.pieces) piece
      × LastTo l.greatest (piece ∷ []));
}
