use Rattle.std.proofs.Common.{subst}
use Rattle.std.specs.Prelude.{◌↔◌, IsTrue, [], ◌∷◌}
use Rattle.path_verifier.specs.Piece.{PieceValue}
use Rattle.path_verifier.specs.Accepted.{LastTo}
use Rattle.std.proofs.lemmas.Bool.{leb-true, le-leb}
use Rattle.combinator.proofs.Least.{lasts_up_to}
use Rattle.combinator.proofs.usable_piece.UsablePiece.lasts_to.Goals as goal

pub returns : goal.returns
returns c =
    let both = lasts_up_to c.self.inside.piece c.self.inside.expiry c.args.half c.self.invariant.6 in
    subst (λ (piece : PieceValue). IsTrue (lib.Dec.leb c.args.half c.self.inside.expiry) ↔ LastTo c.args.half (piece ∷ [])) c.self.view_is
    (λ is. both.0 (leb-true _ _ is), λ lasts. le-leb _ _ (both.1 lasts))
