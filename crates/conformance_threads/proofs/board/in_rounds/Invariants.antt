use Rattle.std.proofs.Common.{◌≡◌}
use Rattle.conformance_threads.proofs.board.in_rounds.Given as goal

abbrev pub invariant-loop : goal.invariant-loop
invariant-loop g l = (l.one.board ≡ l.board.board) × (l.two.board ≡ l.board.board)
