use Rattle.std.proofs.Common.{◌≡◌}
use Rattle.std.specs.Prelude.{All}
use Rattle.conformance_workers.proofs.runs.flights_once.Given as goal

abbrev pub invariant-loop-packet : goal.invariant-loop-packet
invariant-loop-packet l = All (λ flight. flight.fabric ≡ l.fn.net.network) l.flights.items
