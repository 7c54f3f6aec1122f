use Rattle.std.proofs.Common.{IsOk, sym, ap, ◌∙◌, subst}
use Rattle.scion_topology.specs.Topology.{view_in}
use Rattle.router_workers.specs.Flight.{FlightValue}
use Rattle.router_workers.proofs.Flying.{view_there}
use Rattle.router_workers.proofs.flight.Flight.view.Goals as goal

pub unwrap-requires : goal.unwrap-requires
unwrap-requires c =
    let stop = c.in-AtRouter.stop in
    let there = view_there c.args.self.now c.known.ensures stop (sym c.in-AtRouter.ensures) in
    let seen = ap (λ (f : FlightValue). view_in f.fabric stop.ia stop.router) (sym c.self.view_is) ∙ sym c.view.ensures in
    subst IsOk seen there
