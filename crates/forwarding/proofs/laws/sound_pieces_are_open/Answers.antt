use Rattle.forwarding.proofs.Made.{sound_is_open, sound_is_let_through}
use Rattle.forwarding.proofs.laws.sound_pieces_are_open.Goals as goal

pub returns : goal.returns
returns c = record { piece = sound_is_open; path = sound_is_let_through }
