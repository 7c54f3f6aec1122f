-- A run of flights at one second, and its report about each.
use Rattle.std.specs.Prelude.{◌≡◌, ℕ, zero, suc, ◌<◌, nat_le, Bool, ◌&&◌, List, Some, length, slice_get}
use Rattle.scion_topology.specs.Network.{Network}
use Rattle.router_step.specs.declared.fault.Refusal.{Refusal}
use Rattle.forwarding.specs.declared.location.PacketLocation.{PacketLocation}
use Rattle.forwarding.specs.declared.location.PacketLocation.TheVariants as places
use Rattle.forwarding.specs.Turn.{Packet, turned_packet}
use Rattle.network_core.specs.Delivery.{IsAtRouter}
use Rattle.router_workers.specs.Flight.{FlightValue}
use Rattle.router_workers.specs.declared.end.End.{End}
use Rattle.router_workers.specs.declared.end.End.TheVariants.{Delivered, Refused, Dropped}

-- a run may have this number of workers
abbrev pub is_number_of_workers : ℕ → Bool
is_number_of_workers workers = nat_le 1 workers && nat_le workers 8

-- a packet after this number of turns, all at one second
abbrev pub packet_after_turns : (n : Network) (now : ℕ) (packet : Packet) (turns : ℕ) → Packet
packet_after_turns n now packet zero = packet
packet_after_turns n now packet (suc k) = turned_packet n now (packet_after_turns n now packet k)

-- the place of a flight's packet after this number of turns of the run
abbrev pub place_after : (now : ℕ) (given : FlightValue) (turns : ℕ) → PacketLocation
place_after now given turns = (packet_after_turns given.fabric now given.packet turns).place

-- the packet was at a router before each of these turns
abbrev pub FliesUntil : (now : ℕ) (given : FlightValue) (turns : ℕ) → Type 0
FliesUntil now given turns = (k : ℕ) → k < turns → IsAtRouter (place_after now given k)

-- a router has refused the packet with this refusal
abbrev pub RefusedAs : Refusal → PacketLocation → Type 0
RefusedAs refusal place = (ia : ℕ) × ((router : ℕ) × (place ≡ places.Refused ia router refusal))

-- the end that a run may report of one of these flights, at this second and with inboxes of `slots`
-- places. Delivered or refused: after exactly this number of turns. Dropped: it is still at a
-- router after this number of turns, and there are more flights than places in an inbox.
abbrev pub IsFlightEnd : (flights : List FlightValue) (now slots : ℕ) (given : FlightValue)
    (end : End) → Type 0
IsFlightEnd flights now slots given (Delivered turns) =
    (place_after now given turns ≡ places.Delivered) × FliesUntil now given turns
IsFlightEnd flights now slots given (Refused refusal turns) =
    RefusedAs refusal (place_after now given turns) × FliesUntil now given turns
IsFlightEnd flights now slots given (Dropped turns) =
    IsAtRouter (place_after now given turns) × (slots < length flights)

-- one end for each flight, in the order of the flights
pub record IsReport (flights : List FlightValue) (now slots : ℕ) (ends : List End) : Type 0 where
  pub all : length ends ≡ length flights
  pub each : (i : ℕ) (given : FlightValue) (end : End) → slice_get flights i ≡ Some given
      → slice_get ends i ≡ Some end → IsFlightEnd flights now slots given end
