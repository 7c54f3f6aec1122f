use Rattle.std.proofs.Common.{◌≡◌}
use Rattle.conformance_threads.proofs.calls.seated.Given as goal

abbrev pub invariant-loop : goal.invariant-loop
invariant-loop l = l.board ≡ l.fn.board
