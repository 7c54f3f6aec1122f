use Rattle.std.proofs.Common.{List, sym, subst}
use Rattle.path_verifier.specs.Piece.{PieceValue}
use Rattle.path_verifier.specs.Accepted.{IsAccepted, request_of}
use Rattle.path_verifier.proofs.Breaches.{path_kept}
use Rattle.network_core.proofs.sent.Sent.way_out.Goals as goal

pub first_out-requires : goal.first_out-requires
first_out-requires c =
    let accepted = c.known.ensures in
    let way = c.args.self.now.way in
    let same : IsAccepted (request_of c.pieces.result.now way.header way.source way.destination accepted.0 way.rules) =
    subst (λ (pieces : List PieceValue). IsAccepted (request_of pieces way.header way.source way.destination accepted.0 way.rules))
    (sym c.pieces.ensures) accepted.1 in
    (way.source, (way.destination, (accepted.0, path_kept same)))
