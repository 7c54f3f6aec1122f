use Rattle.combinator.proofs.Collected.{at_end}
use Rattle.combinator.proofs.Greatest.{over_more, reached_more, reached_at_end}
use Rattle.path_verifier.specs.Piece.{PieceValue}
use Rattle.std.proofs.Common.{ℕ, ◌≤◌, [], ◌∷◌}
use Rattle.path_verifier.specs.Accepted.{LastTo}
use Rattle.combinator.proofs.group.greatest_expiry.Goals as goal

pub loop-piece-preserved : goal.loop-piece-preserved
loop-piece-preserved c = record {
  over = over_more c.args.pieces.now c.loop-piece.piece-index c.piece-item.result c.loop-piece-test.true c.piece-item.is
      c.loop-piece.greatest c.max-greatest.result c.expiry.result c.max-greatest.ensures c.expiry.ensures c.loop-piece.invariant.over;
  reached = reached_more c.args.pieces.now c.loop-piece.piece-index c.piece-item.result c.loop-piece-test.true c.piece-item.is
      c.loop-piece.greatest c.max-greatest.result c.expiry.result c.max-greatest.ensures c.expiry.ensures c.loop-piece.invariant.reached;
}

pub returns-clause-over : goal.returns-clause-over
returns-clause-over c = λ _.
    at_end (λ (piece : PieceValue). (later : ℕ) → LastTo later (piece ∷ []) → later ≤ c.loop-piece.greatest)
    c.args.pieces.now c.loop-piece.piece-index c.loop-piece-test.false c.loop-piece.invariant.over

pub returns-clause-reached : goal.returns-clause-reached
returns-clause-reached c = λ _.
    reached_at_end c.args.pieces.now c.loop-piece.piece-index c.loop-piece.greatest c.requires c.loop-piece-test.false c.loop-piece.invariant.reached
