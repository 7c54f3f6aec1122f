use Rattle.std.proofs.Common.{◌<◌, ◌+◌, List, length, get_or, ap, ◌∙◌, subst}
use Rattle.path_verifier.specs.Piece.{PieceValue}
use Rattle.daemon_cache.specs.inner.Kept.{piece_in}
use Rattle.daemon_cache.proofs.KeptPaths.{next_is_named}
use Rattle.daemon_cache.proofs.kept.KeptPath.of.Goals as goal

pub loop-piece-preserved : goal.loop-piece-preserved
loop-piece-preserved c =
    let so_far = c.loop-piece.invariant in
    let i = c.loop-piece.piece-index in
    let piece = c.piece-item.result in
    let same = c.pieces-piece-items.ensures.value in (
      next_is_named (piece_in c.args.set.now) c.loop-piece.pieces.items c.push.new.self.items c.in_ok-of.field-0
          c.args.path.now.pieces i piece c.push.ensures.items so_far.0 c.in_ok-of.ensures
          (subst (λ (l : List PieceValue). i < length l) same c.loop-piece-test.true)
          (c.piece-item.is ∙ ap (λ (l : List PieceValue). get_or l i piece) same),
      c.push.ensures.len ∙ ap (λ n. n + 1) so_far.1,
    )
