-- What is recorded of a run while its workers carry the flights.
use Rattle.std.specs.Prelude.{◌≡◌, ℕ, List, [], Some, slice_get}
use Rattle.scion_topology.specs.Network.{Network}
use Rattle.forwarding.specs.Turn.{Packet, packet_with}
use Rattle.router_workers.specs.Flight.{FlightValue, IsFlight}
use Rattle.router_workers.specs.declared.end.End.{End}
use Rattle.router_workers.specs.declared.carried.Job.{Job}
use Rattle.router_workers.specs.Run.{packet_after_turns, FliesUntil, IsFlightEnd}

-- the end of the flight of this number
abbrev pub IsEndOfFlight : (flights : List FlightValue) (now slots number : ℕ) (end : End) → Type 0
IsEndOfFlight flights now slots number end = (given : FlightValue)
    × ((slice_get flights number ≡ Some given) × IsFlightEnd flights now slots given end)

-- a packet as a worker carries it: without the hops that it has passed
abbrev pub without_hops : Packet → Packet
without_hops packet = packet_with packet.bytes packet.place []

-- the packet of a job
abbrev pub carried_packet : Job → Packet
carried_packet job = packet_with job.bytes.items job.place []

-- the packet, without its hops, is that of the flight of this number after these turns of the run,
-- and the flight was at a router before each of them
pub record IsCarried (flights : List FlightValue) (n : Network) (now number turns : ℕ)
    (packet : Packet) : Type 0 where
  pub given : FlightValue
  pub there : slice_get flights number ≡ Some given
  pub is_flight : IsFlight given
  pub network : given.fabric ≡ n
  pub is : packet ≡ without_hops (packet_after_turns given.fabric now given.packet turns)
  pub flew : FliesUntil now given turns

-- the ends are those of the first flights
abbrev pub AreEnds : (flights : List FlightValue) (now slots : ℕ) (ends : List End) → Type 0
AreEnds flights now slots ends =
    (i : ℕ) (end : End) → slice_get ends i ≡ Some end → IsEndOfFlight flights now slots i end
