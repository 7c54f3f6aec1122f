use Rattle.std.proofs.Common.{◌≡◌, length}
use Rattle.std.specs.Prelude.{reverse}
use denote.Shadow.{shadow}
use denote.Text.{Utf8}
use Rattle.separators.specs.Blanks.{after_blanks}
use Rattle.separators.proofs.text.trim_end.Given as goal

abbrev pub invariant-loop-byte : goal.invariant-loop-byte
invariant-loop-byte l = shadow (Utf8 l.rest) × (after_blanks (reverse l.text) ≡ after_blanks (reverse l.rest))

abbrev pub decreases-loop-byte : goal.decreases-loop-byte
decreases-loop-byte l = length l.rest
