-- The flights so far are those of the first packets.
use Rattle.work_lines.proofs.Flown.{AreFirst}
use Rattle.work_lines.proofs.flights.flights_of.Given as goal

abbrev pub invariant-loop-packet : goal.invariant-loop-packet
invariant-loop-packet l = AreFirst l.net.network l.packets l.packet-index l.flights.items
