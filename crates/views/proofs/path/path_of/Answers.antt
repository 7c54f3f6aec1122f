-- What was accepted at some second is accepted at second 0.
use Rattle.std.proofs.Common.{◌∙◌, List, length, ap, arith}
use Rattle.path_verifier.specs.Piece.{PieceValue}
use Rattle.path_verifier.proofs.Breaches.{path_kept}
use Rattle.path_verifier.proofs.Lengths.{path_is_short}
use Rattle.views.proofs.Paths.{request_accepted}
use Rattle.views.proofs.path.path_of.Goals as goal

pub unwrap-requires : goal.unwrap-requires
unwrap-requires c =
    c.verify-verified.ensures.only (request_accepted c.args.sent.now.way c.lend_all-pieces.result c.header.result.now
    c.source.result c.destination.result c.policy.result.now
    (c.lend_all-pieces.ensures ∙ c.pieces.ensures) c.header.ensures c.source.ensures c.destination.ensures c.policy.ensures
    c.known.ensures)

pub lend_all-pieces-requires : goal.lend_all-pieces-requires
lend_all-pieces-requires c =
    let few = path_is_short _ _ _ _ (path_kept c.known.ensures.1) in
    let same = ap (λ (pieces : List PieceValue). length pieces) c.pieces.ensures in
    omega (arith, few, same)
