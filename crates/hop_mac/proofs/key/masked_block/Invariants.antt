-- The bytes before the index are masked, the others are the block's.
use Rattle.std.proofs.Common.{◌≡◌, ◌++◌, take, drop}
use Rattle.hop_mac.specs.Hmac.{masked_bytes}
use Rattle.hop_mac.proofs.key.masked_block.Given as goal

abbrev pub invariant-loop-byte : goal.invariant-loop-byte
invariant-loop-byte l = l.byte-items ≡ masked_bytes l.mask (take l.byte-index l.block) ++ drop l.byte-index l.block
