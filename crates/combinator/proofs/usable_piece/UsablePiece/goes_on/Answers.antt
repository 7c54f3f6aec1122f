use Rattle.std.proofs.Common.{sym, subst}
use Rattle.path_verifier.specs.Piece.{PieceValue}
use Rattle.path_verifier.specs.Walk.{hops_of}
use Rattle.combinator.specs.inner.Alike.{GoesOn}
use Rattle.combinator.proofs.Left.{goes_apart}
use Rattle.combinator.proofs.usable_piece.UsablePiece.goes_on.Goals as goal

pub returns-then-eq : goal.returns-then-eq
returns-then-eq c = λ is past rest here are at goes.
    goes_apart (hops_of c.self.inside.piece) c.hop.result c.args.walk.now c.args.place c.hop.ensures (c.begins_with.ensures is)
    past rest here are at (subst (λ (piece : PieceValue). GoesOn (hops_of piece) here rest) (sym c.self.view_is) goes)
