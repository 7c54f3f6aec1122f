-- A flight: a packet on its way through a network that does not change, and the number of its turns
-- (draft-dekater-scion-dataplane).
use Rattle.std.specs.Prelude.{◌≡◌, ℕ, ◌+◌, ◌≤◌, List, length, Result, Ok, Err}
use Rattle.scion_topology.specs.declared.fault.TopologyFault.{TopologyFault}
use Rattle.scion_topology.specs.View.{View}
use Rattle.scion_topology.specs.Network.{Network}
use Rattle.scion_topology.specs.Rules.{IsNetwork}
use Rattle.scion_topology.specs.Topology.{view_in, owner_in}
use Rattle.path_header.specs.Value.{HeaderValue}
use Rattle.policy_expr.specs.Policy.{Rules}
use Rattle.path_verifier.specs.Piece.{PieceValue}
use Rattle.path_verifier.specs.Walk.{walk_of}
use Rattle.path_verifier.specs.Accepted.{IsAccepted, request_of}
use Rattle.forwarding.specs.declared.location.PacketLocation.{PacketLocation}
use Rattle.forwarding.specs.declared.location.PacketLocation.TheVariants as places
use Rattle.forwarding.specs.Frame.{frame_of, HasFrame}
use Rattle.forwarding.specs.Turn.{Packet, put_at, turned_packet, after}
use Rattle.forwarding.specs.Journey.{first_out}
use Rattle.network_core.specs.Value.{Shipment}

-- what is sent: a path with its ends and its header, and a payload
pub record SentPacket : Type 0 where
  pub source : ℕ
  pub destination : ℕ
  pub pieces : List PieceValue
  pub header : HeaderValue
  pub payload : List ℕ

-- what is sent, from its parts
abbrev pub sent_with : (source destination : ℕ) (pieces : List PieceValue) (header : HeaderValue)
    (payload : List ℕ) → SentPacket
sent_with source destination pieces header payload =
    record {
      source = source;
      destination = destination;
      pieces = pieces;
      header = header;
      payload = payload;
    }

-- a shipment of a network without its policy
abbrev pub sent_packet_of : Shipment → SentPacket
sent_packet_of sent =
    let way = sent.way in
    sent_with way.source way.destination way.pieces way.header sent.payload

-- a flight: its network, what was sent, the number of its turns, and the packet after them
pub record FlightValue : Type 0 where
  pub fabric : Network
  pub sent : SentPacket
  pub turns : ℕ
  pub packet : Packet

-- a flight from its parts
abbrev pub flight_with : Network → SentPacket → ℕ → Packet → FlightValue
flight_with fabric sent turns packet =
    record { fabric = fabric; sent = sent; turns = turns; packet = packet }

-- the packet at the start of a flight: at the router that owns the first way out of its walk
abbrev pub put_with : SentPacket → Result ℕ TopologyFault → Result Packet TopologyFault
put_with sent (Ok router) = Ok
    (put_at (frame_of sent.source sent.destination sent.header sent.payload) sent.source router)
put_with sent (Err fault) = Err fault

abbrev pub packet_at_source : Network → SentPacket → Result Packet TopologyFault
packet_at_source n sent = put_with sent (owner_in n sent.source (first_out (walk_of sent.pieces)))

-- a flight without any turns
abbrev pub flight_at_start : Network → SentPacket → Packet → FlightValue
flight_at_start n sent start = flight_with n sent 0 start

-- the flight after one more turn, at this second
abbrev pub advanced_flight : ℕ → FlightValue → FlightValue
advanced_flight now flight =
    record flight {
      turns = flight.turns + 1;
      packet = turned_packet flight.fabric now flight.packet;
    }

-- the view is the network's view of the router that has the packet
abbrev pub IsViewAt : Network → PacketLocation → View → Type 0
IsViewAt n (places.AtRouter stop) view = view_in n stop.ia stop.router ≡ Ok view
IsViewAt n place view = ⊥

-- the rules of a flight: what was sent was accepted, and the packet is as one turn at each of some
-- seconds made it from its start. There were as many turns as the flight says, at most 128.
pub record IsFlight (flight : FlightValue) : Type 0 where
  pub network : IsNetwork flight.fabric
  pub moment : ℕ
  pub rules : Rules
  pub accepted : IsAccepted (request_of flight.sent.pieces flight.sent.header flight.sent.source
      flight.sent.destination moment rules)
  pub frame : HasFrame flight.sent.source flight.sent.destination flight.sent.pieces
  pub start : Packet
  pub departs : packet_at_source flight.fabric flight.sent ≡ Ok start
  pub moments : List ℕ
  pub count : length moments ≡ flight.turns
  pub is : flight.packet ≡ after flight.fabric start moments
  pub few : flight.turns ≤ 128
