use Rattle.network_core.specs.Event.{ByWay, way_of}
use Rattle.network_core.specs.Step.{shipment_by}
use Rattle.network_core.proofs.Readied.{not_ready, ready_kept}
use Rattle.network_core.proofs.net.Net.send_over.Goals as goal

pub returns-in-Err : goal.returns-in-Err
returns-in-Err c =
    not_ready (λ p. p) c.args.self.now c.shrink_last_packet.new.self
    (λ net. shipment_by net (ByWay (way_of c.args.way.now)) c.args.payload.now) c.in-Err.error
    c.shrink_last_packet.ensures c.in-Err.ensures

pub returns-in-Ok : goal.returns-in-Ok
returns-in-Ok c =
    ready_kept (λ p. p) c.args.self.now c.shrink_last_packet.new.self c.keep_packet.new.self
    (λ net. shipment_by net (ByWay (way_of c.args.way.now)) c.args.payload.now) c.in-Ok.packet
    c.keep_packet.result c.shrink_last_packet.ensures c.in-Ok.ensures c.keep_packet.ensures
