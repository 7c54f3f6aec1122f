-- An authenticator has six bytes.
use Rattle.std.proofs.Common.{◌≡◌, ℕ, zero, suc, ◌*◌, ◌<◌, List, [], ◌∷◌, ◌++◌, All, length, take, slice_index, refl, ◌∙◌, arith, length-append, length-take}
use Rattle.std.proofs.lemmas.List.Elements.{All-nil, All-append, All-take, All-head, All-tail, All-from_recursion}
use Rattle.std.specs.Int.{w32, to_be_bytes}
use Rattle.sha2.specs.Sha256.{sha256, digest_bytes, final_hash, initial_hash_256}
use Rattle.hop_mac.specs.Hmac.{hmac_under}
use Rattle.hop_mac.specs.Hop.{authenticator, input_of}
use Rattle.hop_mac.specs.Hmac.{padded_key, masked_bytes}

abbrev IsByte : ℕ → Type 0
IsByte b = b < 256

word_bytes : (n : ℕ) → All IsByte (to_be_bytes w32 n)
word_bytes n = All-from_recursion IsByte (to_be_bytes w32 n)
    (omega arith, (omega arith, (omega arith, (omega arith, tt))))

digest_len : (h : List ℕ) (n : ℕ) → length (digest_bytes h n) ≡ n * 4
unfolding digest_bytes
digest_len h zero = refl
digest_len h (suc n) =
    let one = length-append (digest_bytes h n) (to_be_bytes w32 (slice_index h n)) in
    let rest = digest_len h n in omega (arith, one, rest)

digest_all : (h : List ℕ) (n : ℕ) → All IsByte (digest_bytes h n)
unfolding digest_bytes
digest_all h zero = All-nil IsByte
digest_all h (suc n) = All-append IsByte (digest_bytes h n) (to_be_bytes w32 (slice_index h n))
    (digest_all h n) (word_bytes (slice_index h n))

sha_len : (m : List ℕ) → length (sha256 m) ≡ 32
unfolding sha256
sha_len m = digest_len (final_hash initial_hash_256 m) 8

sha_all : (m : List ℕ) → All IsByte (sha256 m)
unfolding sha256
sha_all m = digest_all (final_hash initial_hash_256 m) 8

hmac_len : (block text : List ℕ) → length (take 6 (hmac_under block text)) ≡ 6
unfolding hmac_under
hmac_len block text =
    let m = masked_bytes 0x5c block ++ sha256 (masked_bytes 0x36 block ++ text) in
    length-take 6 (sha256 m) ∙ (let n = sha_len m in omega (arith, n))

hmac_all : (block text : List ℕ) → All IsByte (take 6 (hmac_under block text))
unfolding hmac_under
hmac_all block text =
    All-take IsByte 6 _ (sha_all (masked_bytes 0x5c block ++ sha256
    (masked_bytes 0x36 block ++ text)))

each_byte : (xs : List ℕ) → All IsByte xs → (i : ℕ) → slice_index xs i < 256
each_byte [] all zero = omega arith
each_byte [] all (suc i) = omega arith
each_byte (x ∷ xs) all zero = All-head IsByte x xs all
each_byte (x ∷ xs) all (suc i) = each_byte xs (All-tail IsByte x xs all) i

pub mac_len : (key : List ℕ) (beta timestamp exp_time ingress egress : ℕ)
    → length (authenticator key beta timestamp exp_time ingress egress) ≡ 6
mac_len key beta timestamp exp_time ingress egress =
    hmac_len (padded_key key) (input_of beta timestamp exp_time ingress egress)

pub mac_bytes : (key : List ℕ) (beta timestamp exp_time ingress egress : ℕ) (i : ℕ)
    → slice_index (authenticator key beta timestamp exp_time ingress egress) i < 256
mac_bytes key beta timestamp exp_time ingress egress i =
    each_byte (authenticator key beta timestamp exp_time ingress egress)
    (hmac_all (padded_key key) (input_of beta timestamp exp_time ingress egress)) i
