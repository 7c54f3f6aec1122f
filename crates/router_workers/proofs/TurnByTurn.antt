-- A carried flight from turn to turn.
use Rattle.std.proofs.Common.{◌≡◌, ℕ, zero, suc, ◌+◌, ◌<◌, ◌≤◌, List, sym, ap, ◌∙◌, subst, arith, inl, inr}
use Rattle.std.proofs.lemmas.Bool.{cases_lt}
use Rattle.scion_topology.specs.Network.{Network}
use Rattle.forwarding.specs.Turn.{Packet, turned_packet}
use Rattle.network_core.specs.Delivery.{IsAtRouter}
use Rattle.router_workers.specs.Flight.{FlightValue, IsFlight}
use Rattle.router_workers.specs.Run.{packet_after_turns, place_after, FliesUntil}
use Rattle.router_workers.specs.inner.Run.{without_hops, IsCarried}
use Rattle.router_workers.proofs.Flying.{flies_on, turns_left}
use Rattle.router_workers.proofs.Unlost.{IsUnlost, flight_unlost}
use Rattle.router_workers.proofs.WithoutHops.{turned_without_hops}

-- a flight after turns of a run, each of which it had at a router
flown : (now : ℕ) (given : FlightValue) (turns : ℕ) → IsFlight given → FliesUntil now given turns
    → (all : ℕ) × (turns ≤ all) × IsFlight (record given {
      turns = all;
      packet = packet_after_turns given.fabric now given.packet turns;
    })
flown now given zero is flew = (given.turns, omega arith, is)
flown now given (suc k) is flew =
    let before = flown now given k is (λ i early. flew i (omega (arith, early))) in
    let few = before.1 in (
      before.0 + 1,
      omega (arith, few),
      flies_on now _ before.2 (flew k (omega arith)),
    )

-- where the carried flight is
pub place_is : (flights : List FlightValue) (n : Network) (now number turns : ℕ) (packet : Packet)
    (c : IsCarried flights n now number turns packet) → packet.place ≡ place_after now c.given turns
place_is flights n now number turns packet c = ap (λ (p : Packet). p.place) c.is

-- while it is at a router it has had fewer than 128 turns
pub few_turns : (flights : List FlightValue) (n : Network) (now number turns : ℕ) (packet : Packet)
    → IsCarried flights n now number turns packet → IsAtRouter packet.place → turns < 128
few_turns flights n now number turns packet c here =
    let at : IsAtRouter (place_after now c.given turns) =
    subst IsAtRouter (place_is flights n now number turns packet c) here in
    let all = flown now c.given turns c.is_flight c.flew in
    let fewer = turns_left _ all.2 at in
    let few = all.1 in
    omega (arith, fewer, few)

-- it is not lost
pub carried_unlost : (flights : List FlightValue) (n : Network) (now number turns : ℕ)
    (packet : Packet) → IsCarried flights n now number turns packet → IsUnlost packet.place
carried_unlost flights n now number turns packet c =
    let all = flown now c.given turns c.is_flight c.flew in
    subst IsUnlost (sym (place_is flights n now number turns packet c)) (flight_unlost _ all.2)

-- after a turn of its router
pub went_on : (flights : List FlightValue) (n : Network) (now number turns : ℕ)
    (packet left : Packet) → IsCarried flights n now number turns packet → IsAtRouter packet.place
    → left ≡ without_hops (turned_packet n now packet)
    → IsCarried flights n now number (turns + 1) left
went_on flights n now number turns packet left c here turned =
    let more : turns + 1 ≡ suc turns = omega arith in
    let at : IsAtRouter (place_after now c.given turns) =
    subst IsAtRouter (place_is flights n now number turns packet c) here in
    record {
      given = c.given;
      there = c.there;
      is_flight = c.is_flight;
      network = c.network;
      is =
          turned
          ∙ ap (λ m. without_hops (turned_packet m now packet)) (sym c.network)
          ∙ ap (λ (p : Packet). without_hops (turned_packet c.given.fabric now p)) c.is
          ∙ turned_without_hops c.given.fabric now
          (packet_after_turns c.given.fabric now c.given.packet turns)
          ∙ ap (λ k. without_hops (packet_after_turns c.given.fabric now c.given.packet k))
          (sym more);
      flew = λ k early. elim (cases_lt k turns) [
        | inl before ↦ c.flew k before
        | inr not ↦ (let last : turns ≡ k = omega arith in
            subst (λ m. IsAtRouter (place_after now c.given m)) last at)
      ];
    }
