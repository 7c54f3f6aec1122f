use Rattle.std.proofs.Common.{◌≡◌}
use Rattle.conformance_threads.proofs.crowds.counts.Given as goal

abbrev pub invariant-loop : goal.invariant-loop
invariant-loop g l = l.reader.board ≡ l.fn.reader.board
