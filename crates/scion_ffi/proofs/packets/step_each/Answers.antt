use Rattle.std.proofs.Common.{◌<◌, length, arith, slice_index_or, []}
use Rattle.std.proofs.lemmas.List.{get_or_default}
use Rattle.std.proofs.lemmas.List.Edits.{map_over_more}
use Rattle.scion_ffi.specs.declared.records.ScionPacket.{ScionPacket}
use Rattle.scion_ffi.specs.Answer.{answer}
use Rattle.scion_ffi.specs.Packets.{packet_after}
use Rattle.scion_ffi.proofs.packets.step_each.Goals as goal

pub loop-packet-preserved : goal.loop-packet-preserved
loop-packet-preserved c =
    let none : ScionPacket = record { bytes = record { ref_ptr = (0, 0); ghost_name = 0; now = [] }; interface = 0; answer = answer 0 0; arrival = 0 } in
    let i = c.loop-packet.packet-index in
    let x = slice_index_or c.loop-packet.packets i none in
    let below : i < length c.loop-packet.packets = omega arith in
    rw (c.step_one.ensures)
    (map_over_more (packet_after c.args.view.now c.args.now) c.args.packets.now c.loop-packet.packets i x c.loop-packet-test.true c.loop-packet.invariant (get_or_default c.loop-packet.packets i none x below))
