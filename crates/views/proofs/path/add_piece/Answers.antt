use Rattle.std.proofs.Common.{All, sym, subst}
use Rattle.path_verifier.specs.Piece.{HasRange}
use Rattle.path_verifier.proofs.Breaches.{path_kept}
use Rattle.network_core.proofs.Headlines.{all_at}
use Rattle.views.proofs.path.add_piece.Goals as goal

pub numbered_piece-requires : goal.numbered_piece-requires
numbered_piece-requires c =
    all_at HasRange c.pieces.result.now c.args.number c.in-Some.piece.now
    (subst (All HasRange) (sym c.pieces.ensures) (path_kept c.known.ensures).ranges) (sym c.in-Some.ensures)
