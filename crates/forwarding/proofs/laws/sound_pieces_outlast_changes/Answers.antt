use Rattle.forwarding.proofs.Steady.{mended_sound, cut_sound, rotated_sound, renewed_sound}
use Rattle.forwarding.proofs.laws.sound_pieces_outlast_changes.Goals as goal

pub returns : goal.returns
returns c =
    record { mended = mended_sound; cut = cut_sound; others = rotated_sound; own = renewed_sound }
