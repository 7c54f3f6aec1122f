-- Hop authenticators and the accumulator that chains them (draft-dekater-scion-dataplane).
use Rattle.std.specs.Prelude.{ℕ, ◌+◌, ◌*◌, List, [], ◌∷◌, ◌++◌, take, bit_xor, slice_index}
use Rattle.std.specs.Int.{w16, w32, to_be_bytes}
use Rattle.hop_mac.specs.Hmac.{hmac_under, padded_key}

-- the input of a hop's authenticator: 2 zero bytes, the accumulator, the segment's timestamp, a
-- zero byte, the hop's expiry, its two interfaces, 2 zero bytes
abbrev pub input_of : (beta timestamp exp_time cons_ingress cons_egress : ℕ) → List ℕ
input_of beta timestamp exp_time cons_ingress cons_egress =
    0 ∷ 0 ∷ [] ++ to_be_bytes w16 beta ++ to_be_bytes w32 timestamp ++ 0 ∷ exp_time ∷ []
    ++ to_be_bytes w16 cons_ingress ++ to_be_bytes w16 cons_egress ++ 0 ∷ 0 ∷ []

-- the authenticator of a hop under a padded key: the first 6 bytes of the HMAC
abbrev pub authenticator_under : (block : List ℕ)
    (beta timestamp exp_time cons_ingress cons_egress : ℕ) → List ℕ
authenticator_under block beta timestamp exp_time cons_ingress cons_egress =
    take 6 (hmac_under block (input_of beta timestamp exp_time cons_ingress cons_egress))

-- the authenticator of a hop under a key
abbrev pub authenticator : List ℕ → (beta timestamp exp_time cons_ingress cons_egress : ℕ) → List ℕ
authenticator key = authenticator_under (padded_key key)

-- the accumulator after a hop: the one before it, exclusive or the first two bytes of the hop's
-- authenticator
abbrev pub beta_after : ℕ → List ℕ → ℕ
beta_after beta mac = bit_xor beta (slice_index mac 0 * 256 + slice_index mac 1)
