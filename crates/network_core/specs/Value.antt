-- The whole network as one value.
use Rattle.std.specs.Prelude.{ℕ, List, []}
use Rattle.scion_topology.specs.Network.{Network}
use Rattle.path_segment.specs.Chain.{Chain}
use Rattle.path_header.specs.Value.{HeaderValue}
use Rattle.policy_expr.specs.Policy.{Rules}
use Rattle.path_verifier.specs.Piece.{PieceValue}
use Rattle.path_verifier.specs.Accepted.{Request, request_of}
use Rattle.combinator.specs.Candidate.{PathValue}
use Rattle.combinator.specs.Answer.{AnswerValue}
use Rattle.forwarding.specs.Turn.{Packet}

-- a way of a packet: a path with its ends, and the policy under which it is sent
pub record Way : Type 0 where
  pub source : ℕ
  pub destination : ℕ
  pub pieces : List PieceValue
  pub header : HeaderValue
  pub rules : Rules

-- the way of these parts
abbrev pub way_with : (from to : ℕ) → List PieceValue → HeaderValue → Rules → Way
way_with from to pieces header rules =
    record { source = from; destination = to; pieces = pieces; header = header; rules = rules }

-- the verifier's request for a way at a second
abbrev pub asked_at : ℕ → Way → Request
asked_at moment way = request_of way.pieces way.header way.source way.destination moment way.rules

-- a shipment: the way and the payload that were accepted for sending
pub record Shipment : Type 0 where
  pub way : Way
  pub payload : List ℕ

-- a packet of the network: its shipment, and the packet on its way
pub record PacketValue : Type 0 where
  pub sent : Shipment
  pub packet : Packet

-- a kept answer: the ends of the request, the answer, and the policy of the used option
pub record KeptAnswer : Type 0 where
  pub source : ℕ
  pub destination : ℕ
  pub answer : AnswerValue
  pub rules : Rules

-- the way of one path of an answer
abbrev pub way_on : KeptAnswer → PathValue → Way
way_on one path = way_with one.source one.destination path.pieces path.header one.rules

-- a network: its topology, the current second, the beacons by number, the stored segments in the
-- order of registration, and the answers and the packets by number
pub record NetValue : Type 0 where
  pub network : Network
  pub moment : ℕ
  pub beacons : List Chain
  pub segments : List Chain
  pub answers : List KeptAnswer
  pub packets : List PacketValue

-- the network of this topology at second 0, with nothing in it
abbrev pub new_net : Network → NetValue
new_net n =
    record { network = n; moment = 0; beacons = []; segments = []; answers = []; packets = [] }
