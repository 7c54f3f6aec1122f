-- HMAC-SHA-256 for keys of at most one block of 64 bytes (RFC 2104).
use Rattle.std.specs.Prelude.{ℕ, ◌-◌, List, ◌++◌, length, map, replicate, bit_xor}
use Rattle.sha2.specs.Sha256.{sha256}

-- the key, filled up with zeros to a block of 64 bytes
abbrev pub padded_key : List ℕ → List ℕ
padded_key key = key ++ replicate (64 - length key) 0

-- each byte combined with the mask by exclusive or
abbrev pub masked_bytes : ℕ → List ℕ → List ℕ
masked_bytes mask bytes = map (λ byte. bit_xor byte mask) bytes

-- the HMAC of a text under a padded key: H((K xor opad) || H((K xor ipad) || text))
unfoldable pub hmac_under : (block text : List ℕ) → List ℕ
hmac_under block text = sha256 (masked_bytes 0x5c block ++ sha256 (masked_bytes 0x36 block ++ text))

-- the HMAC of a text under a key
abbrev pub hmac : (key text : List ℕ) → List ℕ
hmac key text = hmac_under (padded_key key) text
