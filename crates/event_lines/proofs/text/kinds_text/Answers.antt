use Rattle.std.proofs.Common.{sym, ap, ◌∙◌, option_map}
use Rattle.event_lines.proofs.Letters.{letters_more}
use Rattle.event_lines.proofs.text.kinds_text.Goals as goal

pub loop-place-preserved : goal.loop-place-preserved
loop-place-preserved c =
    let there = sym c.get.ensures ∙ ap (λ o. option_map (λ p. p.now) o) c.unwrap-piece.ensures in
    let more = letters_more c.args.pieces.now c.loop-place.place c.unwrap-piece.result.now there in
    rw (c.in_ok-push_str.ensures.bytes, c.loop-place.invariant, c.letter.ensures, c.kind.ensures) (sym more)
