use Rattle.std.proofs.Common.{◌≡◌, ℕ, ◌<◌, ◌+◌, ◌++◌, List, length, take, drop, get_or, arith}
use Rattle.std.proofs.Math.ListN.{set}
use Rattle.std.specs.Prelude.{bit_xor}
use Rattle.std.proofs.lemmas.List.Edits.{map_over_more}
use Rattle.std.proofs.lemmas.Grind.{common_steps}
use Rattle.hop_mac.specs.Hmac.{masked_bytes}
use Rattle.hop_mac.proofs.key.masked_block.Goals as goal

-- one more byte masked
masked_more : (mask : ℕ) (xs ys : List ℕ) (i : ℕ) → i < length xs → ys ≡ masked_bytes mask (take i xs) ++ drop i xs
    → set ys i (bit_xor (get_or ys i 0) mask) ≡ masked_bytes mask (take (i + 1) xs) ++ drop (i + 1) xs
masked_more mask xs ys i below so_far = map_over_more (λ byte. bit_xor byte mask) xs ys i (get_or ys i 0) below so_far (grind (arith, common_steps))

pub loop-byte-preserved : goal.loop-byte-preserved
loop-byte-preserved c = masked_more _ _ _ _ (omega arith) c.loop-byte.invariant
