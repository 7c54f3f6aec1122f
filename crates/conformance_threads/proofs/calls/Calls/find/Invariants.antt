use Rattle.std.proofs.Common.{◌≡◌}
use Rattle.conformance_threads.proofs.calls.Calls.find.Given as goal

abbrev pub invariant-loop : goal.invariant-loop
invariant-loop g l = l.reader.board ≡ l.fn.reader.board
