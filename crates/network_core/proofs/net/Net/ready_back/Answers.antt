use Rattle.std.proofs.Common.{List, length, ap, arith}
use Rattle.path_verifier.specs.Piece.{PieceValue}
use Rattle.path_verifier.proofs.Breaches.{path_kept}
use Rattle.path_verifier.proofs.Lengths.{path_is_short}
use Rattle.network_core.proofs.net.Net.ready_back.Goals as goal

pub lend_all-requires : goal.lend_all-requires
lend_all-requires c =
    let few = path_is_short _ _ _ _ (path_kept c.known.ensures.1) in
    let same = ap (λ (pieces : List PieceValue). length pieces) c.pieces.ensures in
    omega (arith, few, same)
