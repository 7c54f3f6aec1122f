-- Both states hold the masked key; the text and then the inner code come after it.
use Rattle.std.proofs.Common.{◌≡◌, ◌++◌}
use Rattle.sha2.specs.Sha256.{sha256}
use Rattle.hop_mac.specs.Hmac.{hmac_under, masked_bytes}
use Rattle.hop_mac.proofs.key.MacKey.mac.Goals as goal

pub returns : goal.returns
unfolding hmac_under
returns c =
    let inner_code : c.digest_behind-inner.result ≡ sha256 (masked_bytes 0x36 c.self.inside.block ++ c.args.text.now) = c.digest_behind-inner.ensures _ c.self.invariant.0 in
    let code : c.digest_behind.result ≡ sha256 (masked_bytes 0x5c c.self.inside.block ++ c.as_slice.result.now) = c.digest_behind.ensures _ c.self.invariant.1 in
    (cc (code, inner_code))
