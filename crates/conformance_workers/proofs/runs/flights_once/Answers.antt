use Rattle.std.proofs.Common.{◌≡◌, List, sym, ap, ◌∙◌, subst}
use Rattle.std.specs.Prelude.{All}
use Rattle.std.proofs.lemmas.List.Elements.{All-push}
use Rattle.router_workers.specs.Flight.{FlightValue}
use Rattle.conformance_workers.proofs.runs.flights_once.Goals as goal

pub loop-packet-preserved : goal.loop-packet-preserved
loop-packet-preserved c =
    subst (λ (flights : List FlightValue).
    All (λ (flight : FlightValue). flight.fabric ≡ c.args.net.now.network) flights)
    (sym {A = List FlightValue} c.in_ok-push.ensures.items)
    (All-push (λ (flight : FlightValue). flight.fabric ≡ c.args.net.now.network)
    c.loop-packet.flights.items c.after_turns.result c.loop-packet.invariant
    (c.after_turns.ensures
    ∙ (ap (λ (flight : FlightValue). flight.fabric) c.in_ok-flight.ensures.grounded
    ∙ c.topology.ensures)))
