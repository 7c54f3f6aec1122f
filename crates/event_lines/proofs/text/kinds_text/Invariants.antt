-- The text so far has the letters of the front.
use Rattle.std.proofs.Common.{◌≡◌, take}
use Rattle.std.specs.String.{string_bytes}
use Rattle.event_lines.specs.Text.{kinds_text}
use Rattle.event_lines.proofs.text.kinds_text.Given as goal

abbrev pub invariant-loop-place : goal.invariant-loop-place
invariant-loop-place l = string_bytes l.text ≡ kinds_text (take l.place l.pieces)
