use Rattle.std.proofs.Common.{◌≡◌}
use Rattle.conformance_threads.proofs.crowds.are_found.Given as goal

abbrev pub invariant-loop-number : goal.invariant-loop-number
invariant-loop-number g l = (l.board.board ≡ l.fn.board.board) × (l.reader.board ≡ l.board.board)
