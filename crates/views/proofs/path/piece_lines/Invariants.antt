-- The text so far has the pieces below this number.
use Rattle.std.proofs.Common.{◌≡◌}
use Rattle.std.specs.String.{string_bytes}
use Rattle.views.specs.Path.{piece_lines}
use Rattle.views.proofs.path.piece_lines.Given as goal

abbrev pub invariant-loop-number : goal.invariant-loop-number
invariant-loop-number l = string_bytes l.text ≡ piece_lines l.path.pieces l.number
