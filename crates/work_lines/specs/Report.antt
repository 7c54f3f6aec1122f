-- The flights of a network's packets, and the report about their ends.
use Rattle.std.specs.Prelude.{◌≡◌, ℕ, ◌+◌, codes, List, [], ◌∷◌, ◌++◌, Some, Ok, length, slice_get}
use Rattle.std.specs.Fmt.{decimal}
use Rattle.scion_topology.specs.Network.{Network}
use Rattle.network_core.specs.Value.{NetValue, PacketValue, Shipment}
use Rattle.router_workers.specs.declared.end.End.{End}
use Rattle.router_workers.specs.declared.end.End.TheVariants.{Delivered, Refused, Dropped}
use Rattle.router_workers.specs.Flight.{FlightValue, packet_at_source, flight_at_start, sent_packet_of}
use Rattle.router_workers.specs.Run.{IsReport}
use Rattle.router_step.specs.Fault.{refusal_text}
use Rattle.event_lines.specs.Run.{ended_lines}

-- a flight of this shipment at its start in this network
abbrev pub IsFlightOf : Network → Shipment → FlightValue → Type 0
IsFlightOf n sent flight =
    (packet_at_source n (sent_packet_of sent) ≡ Ok flight.packet)
    × (flight ≡ flight_at_start n (sent_packet_of sent) flight.packet)

-- one such flight for each packet of the network, in their order
pub record AreFlights (net : NetValue) (flights : List FlightValue) : Type 0 where
  pub all : length flights ≡ length net.packets
  pub each : (i : ℕ) (one : PacketValue) (flight : FlightValue) → slice_get net.packets i ≡ Some one
      → slice_get flights i ≡ Some flight → IsFlightOf net.network one.sent flight

-- ---- lines

-- the end of a flight, after its number
abbrev pub end_text : End → List ℕ
end_text (Delivered turns) = codes " delivered " ++ decimal turns
end_text (Refused refusal turns) = codes " refused " ++ refusal_text refusal
end_text (Dropped turns) = codes " dropped"

-- the line of a flight: `flight N delivered TURNS`, `flight N refused CODE Name`, or `flight N
-- dropped`
abbrev pub flight_text : ℕ → End → List ℕ
flight_text number end = codes "flight " ++ (decimal number ++ end_text end)

-- the lines of flights with numbers from this one on
abbrev pub report_lines : ℕ → List End → List (List ℕ)
report_lines number [] = []
report_lines number (end ∷ ends) = flight_text number end ∷ report_lines (number + 1) ends

-- the bytes are the report lines, each with its end, about flights of the network's packets at the
-- network's current second, with inboxes of `slots` places
abbrev pub Reports : NetValue → ℕ → List ℕ → Type 0
Reports net slots bytes = (flights : List FlightValue) × (ends : List End)
    × (AreFlights net flights
    × (IsReport flights net.moment slots ends × (bytes ≡ ended_lines (report_lines 0 ends))))
