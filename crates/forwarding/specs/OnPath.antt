-- A packet on its path at a router of the network, and the result of a turn.
use Rattle.std.specs.Prelude.{◌≡◌, ℕ, ◌+◌, ◌<◌, List, [], ◌++◌, length, Some, Ok, slice_get}
use Rattle.scion_topology.specs.Network.{Network}
use Rattle.scion_topology.specs.Topology.{owner_in}
use Rattle.path_segment.specs.declared.entry.Entry.{Entry}
use Rattle.path_header.specs.Value.{HeaderValue}
use Rattle.policy_expr.specs.declared.hop.WalkHop.{WalkHop}
use Rattle.path_verifier.specs.Piece.{PieceValue, travelled_entries}
use Rattle.path_verifier.specs.Header.{len_of}
use Rattle.path_verifier.specs.Walk.{walk_of}
use Rattle.router_step.specs.declared.arrival.Arrival.{Arrival}
use Rattle.router_step.specs.declared.arrival.Arrival.TheVariants.{FromHost, Inside, Link}
use Rattle.forwarding.specs.declared.location.PacketLocation.TheVariants.{AtRouter, Delivered}
use Rattle.forwarding.specs.Frame.{frame_of, HasFrame}
use Rattle.forwarding.specs.Turn.{Packet, turned_packet}
use Rattle.forwarding.specs.PathPosition.{PathPosition, pieces_at, header_there, header_coming, in_by, out_by}
use Rattle.forwarding.specs.Journey.{to_come, turns_left}
use Rattle.forwarding.specs.Turned.{header_behind}

-- the header with which a packet arrives at a place on its path
abbrev pub header_on : Arrival → PathPosition → HeaderValue
header_on FromHost spot = header_there spot
header_on Inside spot = header_there spot
header_on (Link interface) spot = header_coming spot

-- a packet at a router of this entry's AS
abbrev pub at_spot : (source destination : ℕ) (payload : List ℕ) (spot : PathPosition)
    (entry : Entry) (arrival : Arrival) (router came_in_by : ℕ) (passed : List WalkHop) → Packet
at_spot source destination payload spot entry arrival router came_in_by passed =
    record {
      bytes = frame_of source destination (header_on arrival spot) payload;
      place = AtRouter (record {
        ia = entry.ia;
        router = router;
        arrival = arrival;
        came_in_by = came_in_by;
      });
      passed = passed;
    }

-- the router that has the packet fits how it arrived. From a host: at the beginning of the path, at
-- the owner of the way out. From inside: at the owner of the way out. Over a link: at the owner of
-- the way in.
abbrev pub IsPlaced : (n : Network) (spot : PathPosition) (entry : Entry) (arrival : Arrival)
    (router came_in_by : ℕ) (passed : List WalkHop) → Type 0
IsPlaced n spot entry FromHost router came_in_by passed =
    (spot.past ≡ []) × ((spot.reached ≡ 0) × ((passed ≡ [])
    × (owner_in n entry.ia (out_by spot.piece entry) ≡ Ok router)))
IsPlaced n spot entry Inside router came_in_by passed =
    (spot.reached + 1 < len_of spot.piece)
    × (owner_in n entry.ia (out_by spot.piece entry) ≡ Ok router)
IsPlaced n spot entry (Link interface) router came_in_by passed =
    (0 < spot.reached) × ((0 < length passed) × ((interface ≡ in_by spot.piece entry)
    × ((came_in_by ≡ interface) × (owner_in n entry.ia interface ≡ Ok router))))

-- the packet is on its path, `left` turns before its end: the hops that it has passed and the hops
-- to come are the walk
pub record OnPath (n : Network) (source destination : ℕ) (payload : List ℕ)
    (pieces : List PieceValue) (left : ℕ) (packet : Packet) : Type 0 where
  pub spot : PathPosition
  pub entry : Entry
  pub arrival : Arrival
  pub router : ℕ
  pub came_in_by : ℕ
  pub passed : List WalkHop
  pub is : packet ≡ at_spot source destination payload spot entry arrival router came_in_by passed
  pub frame : HasFrame source destination pieces
  pub whole : pieces_at spot ≡ pieces
  pub there : slice_get (travelled_entries spot.piece) spot.reached ≡ Some entry
  pub placed : IsPlaced n spot entry arrival router came_in_by passed
  pub walk : passed ++ to_come came_in_by spot ≡ walk_of pieces
  pub count : left ≡ turns_left n arrival (to_come came_in_by spot)

-- a turn moves the packet on along its path, one turn nearer to the end
pub record ComesNearer (n : Network) (now source destination : ℕ) (payload : List ℕ)
    (pieces : List PieceValue) (left : ℕ) (packet : Packet) : Type 0 where
  pub less : ℕ
  pub one : left ≡ 1 + less
  pub stands : OnPath n source destination payload pieces less (turned_packet n now packet)

-- the packet after its delivery: with the header at the end of all pieces, the payload as it was
-- sent, and the whole walk passed
abbrev pub arrived_with : (source destination : ℕ) → List ℕ → List PieceValue → Packet
arrived_with source destination payload pieces =
    let bytes = frame_of source destination (header_behind pieces) payload in
    record { bytes = bytes; place = Delivered; passed = walk_of pieces }

-- the last turn delivers the packet
pub record Arrives (n : Network) (now source destination : ℕ) (payload : List ℕ)
    (pieces : List PieceValue) (left : ℕ) (packet : Packet) : Type 0 where
  pub one : left ≡ 1
  pub there : turned_packet n now packet ≡ arrived_with source destination payload pieces
