use Rattle.std.proofs.Common.{◌≡◌, List, sym, ap, ◌∙◌, subst}
use Rattle.std.specs.Prelude.{All}
use Rattle.std.proofs.lemmas.List.Elements.{All-push}
use Rattle.router_workers.specs.Flight.{FlightValue}
use Rattle.bench.proofs.flights.flights_of.Goals as goal

pub loop-number-preserved : goal.loop-number-preserved
loop-number-preserved c =
    subst (λ (flights : List FlightValue).
    All (λ (flight : FlightValue). flight.fabric ≡ c.args.net.now.network) flights)
    (sym {A = List FlightValue} c.in_ok-push.ensures.items)
    (All-push (λ (flight : FlightValue). flight.fabric ≡ c.args.net.now.network)
    c.loop-number.flights.items c.in_ok-new.field-0 c.loop-number.invariant
    (ap (λ (flight : FlightValue). flight.fabric) c.in_ok-new.ensures.grounded
    ∙ c.topology.ensures))
