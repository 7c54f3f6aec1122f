use Rattle.std.proofs.Common.{◌≡◌, ◌+◌, ◌++◌, [], ◌∷◌, List, length, take, ap, sym, ◌∙◌, subst, length-append, arith}
use Rattle.std.specs.Prelude.{OnOk, filter_map}
use Rattle.std.specs.List.{cons_option}
use Rattle.std.proofs.lemmas.List.{append-nil}
use Rattle.path_verifier.specs.Piece.{PieceValue}
use Rattle.daemon_cache.specs.inner.Kept.{piece_in}
use Rattle.daemon_cache.proofs.KeptPaths.{next_place}
use Rattle.daemon_cache.proofs.kept.KeptPath.pieces_in.Goals as goal
use Rattle.daemon_cache.proofs.kept.KeptPath.pieces_in.Goals.{in-Some, in_default}

pub loop-placed-preserved : goal.loop-placed-preserved
loop-placed-preserved c =
    let so_far = c.loop-placed.invariant in
    let h = piece_in c.args.set.now in
    let i = c.loop-placed.placed-index in
    let pieces = c.loop-placed.pieces in
    let same = c.as_slice-placed-items.ensures.value in
    let step = next_place h c.as_slice-placed-items.result.now i _ pieces c.piece_in.result
    (so_far.0 ∙ ap (λ l. filter_map h (take i l)) (sym same)) c.loop-placed-test.true (sym c.piece_in.ensures) in
    let all = ap (λ l. filter_map h (take (i + 1) l)) (sym same) ∙ step in
    elim c.match-piece_in.branch [
      | in-Some w ↦
          let more : c.match-piece_in.pieces ≡ pieces ++ w.in-Some.piece ∷ [] = w.pieces-is
          ∙ subst (λ r. OnOk r (w.push.new.self ≡ pieces ++ w.in-Some.piece ∷ [])) w.unwrap.ensures w.push.ensures.ok in
          let longer : length c.match-piece_in.pieces ≡ length pieces + 1 =
          ap (λ (l : List PieceValue). length l) more ∙ length-append pieces (w.in-Some.piece ∷ []) in
          (more ∙ (ap (λ o. pieces ++ cons_option o []) (sym w.in-Some.is) ∙ sym all), omega (arith, longer, so_far.1))
      | in_default w ↦
          let longer : length c.match-piece_in.pieces ≡ length pieces = ap (λ (l : List PieceValue). length l) w.pieces-is in (
            w.pieces-is ∙ (sym (append-nil pieces) ∙ (ap (λ o. pieces ++ cons_option o []) (sym w.in_default.is) ∙ sym all)),
            omega (arith, longer, so_far.1),
          )
    ]
