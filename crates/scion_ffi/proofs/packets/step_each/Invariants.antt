use Rattle.std.proofs.Common.{◌≡◌, ◌++◌, map, take, drop}
use Rattle.scion_ffi.specs.Packets.{packet_after}
use Rattle.scion_ffi.proofs.packets.step_each.Given as goal

abbrev pub invariant-loop-packet : goal.invariant-loop-packet
invariant-loop-packet l =
    l.packets ≡ map (packet_after l.view l.now)
    (take l.packet-index l.initial.packets) ++ drop l.packet-index l.initial.packets
