-- A flight from turn to turn.
use Rattle.std.proofs.Common.{◌≡◌, ℕ, ◌+◌, ◌<◌, ◌≤◌, ◌^◌, List, Option, Some, None, Ok, [], ◌∷◌, ◌++◌, length, take, drop, IsOk, refl, sym, ap, ◌∙◌, subst, arith, inl, inr}
use Rattle.std.specs.Prelude.{nat_lt}
use Rattle.std.proofs.lemmas.Bool.{cases_Bool, ltb-true}
use Rattle.std.proofs.lemmas.List.{length-append}
use Rattle.std.proofs.Math.Seq.{take-append_seam}
use Rattle.scion_topology.specs.View.{View}
use Rattle.scion_topology.specs.Network.{Network}
use Rattle.scion_topology.specs.Rules.{IsNetwork}
use Rattle.scion_topology.specs.Topology.{view_in, owner_in}
use Rattle.path_header.specs.Value.{HeaderValue, IsHeader}
use Rattle.path_header.specs.Spelling.{FitsBits}
use Rattle.policy_expr.specs.Policy.{Rules}
use Rattle.policy_expr.specs.declared.hop.WalkHop.{WalkHop}
use Rattle.path_verifier.specs.Piece.{PieceValue}
use Rattle.path_verifier.specs.Header.{header_of, total_hops}
use Rattle.path_verifier.specs.Walk.{walk_of}
use Rattle.path_verifier.specs.Accepted.{IsAccepted, request_of}
use Rattle.path_verifier.proofs.Breaches.{header_kept, path_kept}
use Rattle.forwarding.specs.declared.location.RouterStop.{RouterStop}
use Rattle.forwarding.specs.declared.location.PacketLocation.{PacketLocation}
use Rattle.forwarding.specs.declared.location.PacketLocation.TheVariants.{AtRouter, Delivered, Refused, Lost}
use Rattle.forwarding.specs.Frame.{frame_of, HasFrame}
use Rattle.forwarding.specs.Journey.{first_out}
use Rattle.forwarding.specs.Turn.{Packet, packet_with, with_hop_of_turn, put_at, turn_under, turn_of, turned_packet, after}
use Rattle.forwarding.proofs.Ended.{turn_by_view}
use Rattle.forwarding.proofs.Reading.{length_fields}
use Rattle.forwarding.proofs.Bounded.{fewer_before, passed_before, stops_are_there, owners_are_there}
use Rattle.network_core.specs.Delivery.{IsAtRouter}
use Rattle.router_workers.specs.Flight.{SentPacket, FlightValue, IsFlight, IsViewAt, flight_with, put_with, advanced_flight}
use Rattle.router_workers.proofs.Delivered.{departs}

-- ---- while it is at a router it has had fewer than 128 turns

stop_of : (place : PacketLocation) → IsAtRouter place → (stop : RouterStop) × (place ≡ AtRouter stop)
stop_of (AtRouter stop) is = (stop, refl)
stop_of Delivered is = absurd is
stop_of (Refused ia router refusal) is = absurd is
stop_of Lost is = absurd is

-- ---- the bytes of a packet in their room

-- a packet that was turned in the front of its room has the bytes of the turn there
pub turned_in_room : (new old : List ℕ) (len : ℕ) (place : PacketLocation)
    (passed hops : List WalkHop) (turned : Packet) → length new ≡ len → passed ≡ hops
    → packet_with new place hops ≡ turned
    → packet_with (take len (new ++ drop (length new) old)) place passed ≡ turned
turned_in_room new old len place passed hops turned long same is =
    ap (λ (bytes : List ℕ). packet_with bytes place passed)
    (ap (λ (k : ℕ). take k (new ++ drop (length new) old)) (sym long)
    ∙ take-append_seam new (drop (length new) old))
    ∙ ap (λ (hops : List WalkHop). packet_with new place hops) same ∙ is

-- ---- a flight without any turns

pub framed_with : (source destination : ℕ) (pieces : List PieceValue) (header : HeaderValue)
    → header ≡ header_of pieces → IsHeader header → FitsBits header → source < 2 ^ 64
    → destination < 2 ^ 64 → HasFrame source destination pieces
framed_with source destination pieces header same is fits from to = record {
  source_fits = from;
  destination_fits = to;
  is_header = subst IsHeader same is;
  fits = subst FitsBits same fits;
}

pub begins : (n : Network) (sent : SentPacket) (packet : Packet) (router moment : ℕ) (rules : Rules)
    → IsNetwork n → IsAccepted (request_of sent.pieces sent.header sent.source sent.destination
    moment rules)
    → HasFrame sent.source sent.destination sent.pieces
    → owner_in n sent.source (first_out (walk_of sent.pieces)) ≡ Ok router
    → packet ≡ put_at (frame_of sent.source sent.destination sent.header sent.payload) sent.source
    router
    → IsFlight (flight_with n sent 0 packet)
begins n sent packet router moment rules network accepted frame owned at = record {
  network = network;
  moment = moment;
  rules = rules;
  accepted = accepted;
  frame = frame;
  start = packet;
  departs = ap (put_with sent) owned ∙ ap (λ p. Ok p) (sym at);
  moments = [];
  count = refl;
  is = refl;
  few = omega arith;
}

-- ---- where it stands, from where it departs

at_stop : (flight : FlightValue) (is : IsFlight flight) (stop : RouterStop)
    → flight.packet.place ≡ AtRouter stop
    → (after flight.fabric (put_at (frame_of flight.sent.source flight.sent.destination
    flight.sent.header flight.sent.payload) flight.sent.source
    (departs flight.fabric flight.sent is.start is.departs).router) is.moments).place
    ≡ AtRouter stop
at_stop flight is stop at =
    let from = departs flight.fabric flight.sent is.start is.departs in
    ap (λ (p : Packet). (after flight.fabric p is.moments).place) (sym from.is)
    ∙ ap (λ (p : Packet). p.place) (sym is.is) ∙ at

-- the network has the router at which it stands
pub view_there : (flight : FlightValue) → IsFlight flight → (stop : RouterStop)
    → flight.packet.place ≡ AtRouter stop → IsOk (view_in flight.fabric stop.ia stop.router)
view_there flight is stop at =
    let n = flight.fabric in
    let way = flight.sent in
    let from = departs n flight.sent is.start is.departs in
    let there = owners_are_there n way.source _ from.router is.network from.owned in
    let header = header_kept is.accepted in
    stops_are_there n way.source way.destination way.source from.router way.header
    way.payload is.moments stop is.network there (rw header is.frame.is_header)
    (rw header is.frame.fits) (at_stop flight is stop at)

hops_of_header : (pieces : List PieceValue) (header : HeaderValue) → header ≡ header_of pieces
    → length header.hops ≡ total_hops pieces
unfolding header_of
hops_of_header pieces header same = ap (λ (h : HeaderValue). length h.hops) same
    ∙ length_fields pieces

pub turns_left : (flight : FlightValue) → IsFlight flight → IsAtRouter flight.packet.place
    → flight.turns < 128
turns_left flight is here =
    let n = flight.fabric in
    let way = flight.sent in
    let from = departs n flight.sent is.start is.departs in
    let there = owners_are_there n way.source _ from.router is.network from.owned in
    let stop = stop_of flight.packet.place here in
    let header = header_kept is.accepted in
    let at = at_stop flight is stop.0 stop.1 in
    let fewer = fewer_before n way.source way.destination way.source from.router way.header
    way.payload is.moments stop.0 is.network there
    (rw header is.frame.is_header) (rw header is.frame.fits) at in
    let hops : length way.header.hops ≡ total_hops way.pieces = hops_of_header way.pieces way.header
    header in
    let few = (path_kept is.accepted).few in
    let count = is.count in
    omega arith

-- it has passed fewer hops than its header has hop fields
pub hops_left : (flight : FlightValue) → IsFlight flight → IsAtRouter flight.packet.place
    → length flight.packet.passed < length flight.sent.header.hops
hops_left flight is here =
    let n = flight.fabric in
    let way = flight.sent in
    let from = departs n flight.sent is.start is.departs in
    let there = owners_are_there n way.source _ from.router is.network from.owned in
    let stop = stop_of flight.packet.place here in
    let header = header_kept is.accepted in
    let at = at_stop flight is stop.0 stop.1 in
    let fewer = passed_before n way.source way.destination way.source from.router way.header
    way.payload is.moments stop.0 is.network there
    (rw header is.frame.is_header) (rw header is.frame.fits) at in
    let same = is.is ∙ ap (λ (p : Packet). after n p is.moments) from.is in
    subst (λ (p : Packet). length p.passed < length way.header.hops) (sym same) fewer

-- ---- a turn more

after_snoc : (n : Network) (packet : Packet) (moments : List ℕ) (now : ℕ)
    → after n packet (moments ++ now ∷ []) ≡ turned_packet n now (after n packet moments)
after_snoc n packet [] now = refl
after_snoc n packet (first ∷ later) now = after_snoc n (turned_packet n first packet) later now

pub flies_on : (now : ℕ) (flight : FlightValue) → IsFlight flight
    → IsAtRouter flight.packet.place → IsFlight (advanced_flight now flight)
flies_on now flight is here =
    let left = turns_left flight is here in
    record {
      network = is.network;
      moment = is.moment;
      rules = is.rules;
      accepted = is.accepted;
      frame = is.frame;
      start = is.start;
      departs = is.departs;
      moments = is.moments ++ now ∷ [];
      count = (let count = is.count in omega (arith, length-append is.moments (now ∷ [])));
      is = ap (turned_packet flight.fabric now) is.is ∙ sym (after_snoc flight.fabric is.start is.moments now);
      few = omega arith;
    }

-- the same of the packet that a call leaves
pub flies_with : (now : ℕ) (flight : FlightValue) (packet : Packet) → IsFlight flight
    → IsAtRouter flight.packet.place → packet ≡ turned_packet flight.fabric now flight.packet
    → IsFlight (record flight { turns = flight.turns + 1; packet = packet })
flies_with now flight packet is here left = subst
    (λ (p : Packet). IsFlight (record flight { turns = flight.turns + 1; packet = p })) (sym left)
    (flies_on now flight is here)

-- ---- by a view

pub at_router : (n : Network) (place : PacketLocation) (view : View) → IsViewAt n place view → IsAtRouter place
at_router n (AtRouter stop) view is = tt
at_router n Delivered view is = absurd is
at_router n (Refused ia router refusal) view is = absurd is
at_router n Lost view is = absurd is

same_turn : (n : Network) (now : ℕ) (packet : Packet) (view : View) (place : PacketLocation)
    → packet.place ≡ place → IsViewAt n place view
    → turn_under n view now packet ≡ turn_of n now packet
same_turn n now packet view (AtRouter stop) at is = turn_by_view n now packet stop view at is
same_turn n now packet view Delivered at is = absurd is
same_turn n now packet view (Refused ia router refusal) at is = absurd is
same_turn n now packet view Lost at is = absurd is

turned_by : (now : ℕ) (flight : FlightValue) (view : View) (packet : Packet)
    → IsViewAt flight.fabric flight.packet.place view
    → packet ≡ (turn_under flight.fabric view now flight.packet).1
    → packet ≡ turned_packet flight.fabric now flight.packet
turned_by now flight view packet is left =
    left ∙ ap (λ t. t.1) (same_turn flight.fabric now flight.packet view flight.packet.place refl is)

pub flies_by : (now : ℕ) (flight : FlightValue) (view : View) (packet : Packet) → IsFlight flight
    → IsViewAt flight.fabric flight.packet.place view
    → packet ≡ (turn_under flight.fabric view now flight.packet).1
    → IsFlight (record flight { turns = flight.turns + 1; packet = packet })
flies_by now flight view packet is at left = flies_with now flight packet is
    (at_router flight.fabric flight.packet.place view at) (turned_by now flight view packet at left)

pub advanced_by : (now : ℕ) (flight : FlightValue) (view : View) (packet : Packet)
    → IsViewAt flight.fabric flight.packet.place view
    → packet ≡ (turn_under flight.fabric view now flight.packet).1
    → record flight { turns = flight.turns + 1; packet = packet } ≡ advanced_flight now flight
advanced_by now flight view packet at left =
    ap (λ (p : Packet). record flight { turns = flight.turns + 1; packet = p })
    (turned_by now flight view packet at left)

-- ---- the hops that it has passed

pub few_passed : (passed new : List WalkHop) (hop : Option WalkHop) → length passed ≤ 64
    → new ≡ with_hop_of_turn passed hop → length new ≤ 64
few_passed passed new None few is = rw is few
few_passed passed new (Some hop) few is = elim (cases_Bool (nat_lt (length passed) 64)) [
  | inl room ↦ (
      let there = ltb-true (length passed) 64 room in
      rw (is, room) (omega (arith, length-append passed (hop ∷ []), there)))
  | inr full ↦ rw (is, full) few
]
