-- Each packet has a flight.
use Rattle.std.proofs.Common.{◌+◌, List, arith, ap, length, refl, subst, sym, ◌∙◌}
use Rattle.std.specs.Prelude.{slice_get}
use Rattle.std.proofs.lemmas.Option.{slice_get_read}
use Rattle.scion_topology.specs.Network.{Network}
use Rattle.network_core.specs.Delivery.{MayDepart}
use Rattle.network_core.specs.Value.{Shipment}
use Rattle.router_workers.specs.Flight.{FlightValue}
use Rattle.work_lines.specs.Report.{IsFlightOf}
use Rattle.work_lines.proofs.Flown.{AreFirst, one_more}
use Rattle.work_lines.proofs.flights.flights_of.Goals as goal

pub flight_of-requires : goal.flight_of-requires
flight_of-requires c =
    let there =
    slice_get_read c.packets-packets.result.now _ c.loop-packet.packet-index c.packet-item.result refl c.loop-packet-test.true c.packet-item.is in
    let net = c.args.net.now in
    let may = c.requires c.loop-packet.packet-index c.packet-item.result
    (ap (λ ps. slice_get ps c.loop-packet.packet-index) (sym c.packets-packets.ensures) ∙ there) in
    subst (λ (n : Network). MayDepart n c.sent.result.now) (sym c.topology.ensures)
    (subst (λ (s : Shipment). MayDepart net.network s) (sym c.sent.ensures) may)

pub loop-packet-preserved : goal.loop-packet-preserved
loop-packet-preserved c =
    let flight = c.in_ok-flight_of.field-0 in
    let there =
    slice_get_read c.packets-packets.result.now _ c.loop-packet.packet-index c.packet-item.result refl c.loop-packet-test.true c.packet-item.is in
    let is = subst (λ (n : Network). IsFlightOf n c.packet-item.result.sent flight) c.topology.ensures
    (subst (λ (s : Shipment). IsFlightOf c.topology.result.now s flight) c.sent.ensures c.in_ok-flight_of.ensures) in
    subst (AreFirst c.args.net.now.network c.packets-packets.result.now (c.loop-packet.packet-index + 1))
    (sym {A = List FlightValue} c.in_ok-push.ensures.items)
    (one_more c.args.net.now.network c.packets-packets.result.now c.loop-packet.packet-index c.loop-packet.flights.items
    c.packet-item.result flight c.loop-packet.invariant there is)

pub returns-clause-flights : goal.returns-clause-flights
returns-clause-flights c =
    let first = c.loop-packet.invariant in
    let packets = c.packets-packets.ensures in
    record {
      all = omega (arith, first.all, ap length packets, c.loop-packet-test.false, c.loop-packet.auto.packet-index-end);
      each = λ i one flight there at. first.each i one flight (ap (λ ps. slice_get ps i) packets ∙ there) at;
    }
