use Rattle.std.proofs.Common.{List, length, ap, arith}
use Rattle.path_verifier.specs.Piece.{PieceValue}
use Rattle.path_verifier.proofs.Breaches.{path_kept}
use Rattle.path_verifier.proofs.Lengths.{path_is_short}
use Rattle.combinator.proofs.path.Path.try_clone.Goals as goal

pub lend_all-requires : goal.lend_all-requires
lend_all-requires c =
    let few = path_is_short _ _ _ _ (path_kept c.self.invariant.0.accepted) in
    let same = ap (λ (pieces : List PieceValue). length pieces) c.deref.ensures.value in
    omega (arith, few, same)
