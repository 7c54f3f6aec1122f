use Rattle.std.proofs.Common.{◌≡◌, subst}
use Rattle.path_verifier.specs.Piece.{PieceValue}
use Rattle.path_requests.specs.Expiry.{piece_expiry}
use Rattle.path_requests.proofs.Moments.{piece_expires}
use Rattle.path_requests.proofs.expiry.piece_expiry.Goals as goal

pub returns : goal.returns
returns c =
    let inside : PieceValue =
    record { segment = c.piece.inside.segment; from = c.piece.inside.from; to = c.piece.inside.to; along = c.piece.inside.along } in
    subst (λ (piece : PieceValue). c.least_expiry.result ≡ piece_expiry piece) c.piece.view_is
    (piece_expires inside c.least_expiry.result c.least_expiry.ensures)
