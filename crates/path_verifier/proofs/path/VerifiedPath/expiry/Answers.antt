use Rattle.std.proofs.Common.{◌<◌, List, length, sym, subst}
use Rattle.std.specs.List.{AllByRecursion}
use Rattle.std.proofs.lemmas.List.Elements.{recursion_from_All}
use Rattle.path_verifier.specs.Piece.{PieceValue, HasRange}
use Rattle.path_verifier.proofs.Breaches.{path_kept}
use Rattle.path_verifier.proofs.path.VerifiedPath.expiry.Goals as goal

pub expiry_of-requires-clause-some : goal.expiry_of-requires-clause-some
expiry_of-requires-clause-some g c =
    subst (λ (pieces : List PieceValue). 0 < length pieces) (sym c.pieces.view_is)
    (path_kept c.self.invariant.0).some

pub expiry_of-requires-clause-ranges : goal.expiry_of-requires-clause-ranges
expiry_of-requires-clause-ranges g c =
    subst (AllByRecursion HasRange) (sym c.pieces.view_is)
    (recursion_from_All HasRange _ (path_kept c.self.invariant.0).ranges)
