use Rattle.std.proofs.Common.{◌≡◌, length}
use Rattle.separators.specs.Blanks.{after_blanks}
use Rattle.separators.proofs.bytes.trim_start.Given as goal

abbrev pub invariant-loop-byte : goal.invariant-loop-byte
invariant-loop-byte l = after_blanks l.bytes ≡ after_blanks l.rest

abbrev pub decreases-loop-byte : goal.decreases-loop-byte
decreases-loop-byte l = length l.rest
