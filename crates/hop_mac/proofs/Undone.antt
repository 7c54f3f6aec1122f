-- The chain's step with the same authenticator leads back.
use Rattle.std.proofs.Common.{◌≡◌, ℕ, ◌+◌, ◌*◌, List, ◌∙◌, ap, get_or}
use Rattle.std.specs.Prelude.{bit_xor}
use lib.Bits.{xor_assoc, xor_self, xor_zero_r}
use Rattle.hop_mac.specs.Hop.{beta_after}

pub beta_after-twice : (beta : ℕ) (mac : List ℕ) → beta_after (beta_after beta mac) mac ≡ beta
beta_after-twice beta mac =
    let x = get_or mac 0 0 * 256 + get_or mac 1 0 in
    xor_assoc beta x x ∙ ap (bit_xor beta) (xor_self x) ∙ xor_zero_r beta
