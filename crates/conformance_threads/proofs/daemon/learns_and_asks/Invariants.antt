use Rattle.std.proofs.Common.{◌≡◌}
use Rattle.conformance_threads.proofs.daemon.learns_and_asks.Given as goal

abbrev pub invariant-loop : goal.invariant-loop
invariant-loop g l = l.reader.board ≡ g.B.OneBoard.board
