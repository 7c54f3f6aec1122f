-- The bytes so far stand in the line.
use Rattle.std.proofs.Common.{◌≡◌}
use Rattle.beacon_lines.proofs.InLine.{line_up_to}
use Rattle.beacon_lines.proofs.lines.to_one_line.Given as goal

abbrev pub invariant-loop-byte : goal.invariant-loop-byte
invariant-loop-byte l = l.bytes ≡ line_up_to l.initial.bytes l.byte-index
