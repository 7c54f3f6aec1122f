-- What is gone from `rest` was written, and no write failed.
use Rattle.std.proofs.Common.{◌≡◌, length}
use Rattle.streams.proofs.Fronts.{Written}
use Rattle.streams.proofs.output.write_all.Given as goal

abbrev pub invariant-loop-rest : goal.invariant-loop-rest
invariant-loop-rest g l =
    Written (g.K.Sink.held l.initial.sink) (g.K.Sink.held l.sink) l.initial.rest l.rest
    × (g.K.Sink.failed l.sink ≡ g.K.Sink.failed l.initial.sink)

abbrev pub decreases-loop-rest : goal.decreases-loop-rest
decreases-loop-rest g l = length l.rest
