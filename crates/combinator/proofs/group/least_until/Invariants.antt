use Rattle.std.proofs.Common.{[], ◌∷◌, take, Contains}
use Rattle.std.specs.Prelude.{IfNone, IfSome}
use Rattle.path_verifier.specs.Piece.{PieceValue}
use Rattle.path_verifier.specs.Accepted.{LastTo}
use Rattle.combinator.specs.inner.Group.{IsLeastAmong}
use Rattle.combinator.proofs.group.least_until.Given as goal

abbrev pub invariant-loop-piece : goal.invariant-loop-piece
invariant-loop-piece l = record {
  none : IfNone l.least ((other : PieceValue) → Contains (take l.piece-index l.pieces) other → ¬ (LastTo l.half (other ∷ [])));
  some : IfSome l.least (λ best. IsLeastAmong l.half (take l.piece-index l.pieces) best.now);
}
