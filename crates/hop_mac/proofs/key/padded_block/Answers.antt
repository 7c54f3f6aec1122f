-- The key stands at the front, and what is left of a block of zeros is zeros.
use Rattle.std.proofs.Common.{arith}
use Rattle.std.proofs.lemmas.List.{drop-replicate}
use Rattle.std.proofs.lemmas.Grind.{common_steps}
use Rattle.hop_mac.proofs.key.padded_block.Goals as goal

pub returns : goal.returns
returns c = rw (drop-replicate, c.copy_from_slice.ensures.after) (grind (arith, common_steps))
