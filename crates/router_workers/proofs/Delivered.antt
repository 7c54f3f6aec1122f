-- What becomes of a flight over sound pieces.
use Rattle.std.proofs.Common.{◌≡◌, ℕ, ◌-◌, ◌*◌, ◌<◌, ◌≤◌, List, [], ◌∷◌, ◌++◌, length, Result, Ok, Err, refl, sym, ap, ◌∙◌, subst, arith, inl, inr, append-nil}
use Rattle.std.specs.Prelude.{All}
use Rattle.std.proofs.lemmas.Bool.{cases_lt}
use Rattle.scion_topology.specs.declared.fault.TopologyFault.{TopologyFault}
use Rattle.scion_topology.specs.Network.{Network}
use Rattle.scion_topology.specs.Topology.{owner_in}
use Rattle.path_verifier.specs.Walk.{walk_of}
use Rattle.path_verifier.specs.Accepted.{AreLive}
use Rattle.path_verifier.specs.Header.{total_hops}
use Rattle.path_verifier.proofs.Breaches.{header_kept, path_kept}
use Rattle.forwarding.specs.Frame.{frame_of}
use Rattle.forwarding.specs.Turn.{Packet, put_at, after}
use Rattle.forwarding.specs.Forwardable.{MayForward}
use Rattle.forwarding.specs.OnPath.{OnPath, arrived_with}
use Rattle.forwarding.specs.Journey.{first_out, to_come, turns_for}
use Rattle.forwarding.proofs.Bounds.{turns_are_few}
use Rattle.forwarding.proofs.Sending.{starts}
use Rattle.forwarding.proofs.Made.{sound_is_let_through}
use Rattle.forwarding.proofs.Journeys.{stands_after, delivered_after}
use Rattle.network_core.specs.Delivery.{IsRefusedAt, IsAtRouter}
use Rattle.router_workers.specs.Flight.{SentPacket, IsFlight, put_with, packet_at_source, flight_at_start}
use Rattle.router_workers.specs.Delivery.{IsFlightForwarded, IsSoundIn}

-- ---- where a flight departs

pub record Departs (n : Network) (sent : SentPacket) (start : Packet) : Type 0 where
  pub router : ℕ
  pub owned : owner_in n sent.source (first_out (walk_of sent.pieces)) ≡ Ok router
  pub is : start
      ≡ put_at (frame_of sent.source sent.destination sent.header sent.payload) sent.source router

departs_with : (n : Network) (sent : SentPacket) (start : Packet) (owner : Result ℕ TopologyFault)
    → owner_in n sent.source (first_out (walk_of sent.pieces)) ≡ owner
    → put_with sent owner ≡ Ok start → Departs n sent start
departs_with n sent start (Ok router) is put = record { router = router; owned = is; is = cc }
departs_with n sent start (Err fault) is put = absurd cc

pub departs : (n : Network) (sent : SentPacket) (start : Packet) → packet_at_source n sent ≡ Ok start
    → Departs n sent start
departs n sent start put = departs_with n sent start
    (owner_in n sent.source (first_out (walk_of sent.pieces))) refl put

-- a flight that has had no turn is where it departs
began : (n : Network) (start first : Packet) (moments : List ℕ) → length moments ≡ 0
    → start ≡ after n first moments → start ≡ first
began n start first [] none is = is
began n start first (now ∷ later) none is = absurd (omega (arith, none))

-- ---- after its turns

before : (n : Network) (sent : SentPacket) (total done : ℕ) (packet : Packet) → done < total
    → total ≤ 2 * total_hops sent.pieces → OnPath n sent.source sent.destination sent.payload sent.pieces (total - done)
    packet → IsFlightForwarded sent total done packet
before n sent total done packet early few stands =
    let place = ap (λ (q : Packet). q.place) stands.is in
    let at : IsAtRouter packet.place = subst IsAtRouter (sym place) tt in
    record {
      unrefused = λ refused. absurd (subst (λ p. IsRefusedAt p) place refused);
      rest = to_come stands.came_in_by stands.spot;
      so_far = ap (λ (q : Packet). q.passed ++ to_come stands.came_in_by stands.spot) stands.is
          ∙ stands.walk;
      exact = (
        λ delivered. absurd (let both = sym place ∙ delivered in cc),
        λ enough. absurd (omega arith),
      );
      waits = λ _. at;
      delivers = λ enough. absurd (omega arith);
      whole = λ delivered. absurd (let both = sym place ∙ delivered in cc);
    }

behind : (sent : SentPacket) (total done : ℕ) (packet : Packet) → total ≤ done
    → packet ≡ arrived_with sent.source sent.destination sent.payload sent.pieces
    → IsFlightForwarded sent total done packet
behind sent total done packet enough there =
    let place = ap (λ (q : Packet). q.place) there in
    record {
      unrefused = λ refused. absurd (subst (λ p. IsRefusedAt p) place refused);
      rest = [];
      so_far = ap (λ (q : Packet). q.passed ++ []) there ∙ append-nil (walk_of sent.pieces);
      exact = (λ delivered. enough, λ _. place);
      waits = λ early. absurd (omega arith);
      delivers = λ _. place;
      whole = λ delivered. there;
    }

pub delivered : (n : Network) (sent : SentPacket) (start : Packet) (moments : List ℕ)
    → IsFlight (flight_at_start n sent start) → IsSoundIn n sent
    → All (λ now. AreLive now sent.pieces) moments
    → IsFlightForwarded sent (turns_for n (walk_of sent.pieces)) (length moments)
    (after n start moments)
delivered n sent start moments flight sound live =
    let path = path_kept flight.accepted in
    let from = departs n sent flight.start flight.departs in
    let first = began n start flight.start flight.moments flight.count flight.is ∙ from.is in
    let total = turns_for n (walk_of sent.pieces) in
    let few = turns_are_few n sent.pieces sent.source sent.destination flight.moment path in
    let lets : All (λ now. MayForward n now sent.source sent.destination sent.pieces)
    moments = λ k d within. sound_is_let_through n _ sent.source sent.destination
    flight.moment sent.pieces flight.network path (live k d within) sound in
    let stands = subst (λ header. OnPath n sent.source sent.destination sent.payload
    sent.pieces total
    (put_at (frame_of sent.source sent.destination header sent.payload) sent.source
    from.router)) (sym (header_kept flight.accepted))
    (starts n sent.source sent.destination flight.moment from.router sent.payload
    sent.pieces path flight.frame from.owned) in
    let here = subst (λ p. OnPath n sent.source sent.destination sent.payload
    sent.pieces total p) (sym first) stands in
    elim (cases_lt (length moments) total) [
      | inr enough ↦ behind sent total (length moments) (after n start moments) enough
          (delivered_after n sent.source sent.destination sent.payload sent.pieces total
          start moments lets here enough)
      | inl early ↦ before n sent total (length moments) (after n start moments) early few
          (stands_after n sent.source sent.destination sent.payload sent.pieces total
          start moments lets here early)
    ]
