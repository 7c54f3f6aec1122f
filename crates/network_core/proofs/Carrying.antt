-- A packet on a path that is let through, event by event.
use Rattle.std.proofs.Common.{◌≡◌, ℕ, zero, suc, ◌+◌, ◌<◌, ◌≤◌, ◌⊎◌, Bool, true, if◌then◌else◌, List, [], ◌∷◌, length, set, Some, Ok, Err, Result, refl, sym, ap, ◌∙◌, subst, arith, inl, inr}
use Rattle.std.proofs.lemmas.List.Sums.{sum_by-cons}
use Rattle.std.specs.Prelude.{slice_get}
use Rattle.std.specs.Option.{ok_or}
use Rattle.std.proofs.lemmas.Bool.{cases_eq, eq-eqb, ne_eqb}
use Rattle.std.proofs.lemmas.Option.{slice_get_within}
use Rattle.refusal.specs.Refusal.{◌>>=◌}
use Rattle.scion_topology.specs.Network.{Network}
use Rattle.policy_expr.specs.declared.hop.WalkHop.{WalkHop}
use Rattle.router_step.specs.declared.arrival.Arrival.{Arrival}
use Rattle.router_step.specs.declared.arrival.Arrival.TheVariants.{FromHost, Inside, Link}
use Rattle.forwarding.specs.Turn.{Packet, turn_of, altered_packet}
use Rattle.forwarding.specs.Forwardable.{MayForward}
use Rattle.forwarding.specs.OnPath.{OnPath, arrived_with}
use Rattle.forwarding.specs.Journey.{to_come, turns_over, turns_left}
use Rattle.forwarding.proofs.Lasting.{stands_linked, stands_keyed}
use Rattle.forwarding.proofs.Leading.{one_turn}
use Rattle.forwarding.proofs.Way.{some_to_come}
use Rattle.network_core.specs.declared.fault.EventFault.{EventFault}
use Rattle.network_core.specs.declared.fault.EventFault.TheVariants as faults
use Rattle.network_core.specs.declared.reply.Reply.{Reply}
use Rattle.network_core.specs.declared.reply.Reply.TheVariants as replies
use Rattle.network_core.specs.Event.{EventValue, Turn, Lose, Alter}
use Rattle.network_core.specs.Value.{Shipment, PacketValue, NetValue}
use Rattle.network_core.specs.Step.{Made, is_in_flight, flying_at, with_packet, turns, loses, alters, Leads, Step}
use Rattle.network_core.specs.History.{EventRecord, IsHistory, net_after}
use Rattle.network_core.specs.Delivery.{is_done, LetsGoOn, AllLetGoOn, is_turn_of, turns_of}
use Rattle.network_core.proofs.Effects.{effect}
use Rattle.network_core.proofs.Keeping.{Keeps, kept}

-- ---- a packet that stands has a turn left

over_some : (n : Network) (hops : List WalkHop) → 0 < length hops → 0 < turns_over n hops
over_some n [] some = absurd (omega arith)
over_some n (last ∷ []) some = omega arith
over_some n (hop ∷ next ∷ later) some =
    let more = over_some n (next ∷ later) (omega arith) in omega arith

left_some : (n : Network) (arrival : Arrival) (hops : List WalkHop) → 0 < length hops
    → 0 < turns_left n arrival hops
left_some n FromHost hops some = omega arith
left_some n Inside hops some = omega arith
left_some n (Link interface) hops some = over_some n hops some

-- the packet of what was sent stands so many turns from its end
abbrev pub Stands : NetValue → Shipment → ℕ → Packet → Type 0
Stands net sent left packet = OnPath net.network sent.way.source sent.way.destination sent.payload
    sent.way.pieces left packet

pub standing_some : (net : NetValue) (sent : Shipment) (left : ℕ) (packet : Packet)
    → Stands net sent left packet → 0 < left
standing_some net sent left packet s =
    subst (λ k. 0 < k) (sym s.count)
    (left_some net.network s.arrival (to_come s.came_in_by s.spot) (some_to_come s.came_in_by s.spot s.entry s.there))

-- and stands so after any event that leaves it as it is
stands_on : (old new : NetValue) (event : EventValue) (reply : Reply) (sent : Shipment) (left : ℕ)
    (packet : Packet) → Step old event reply new → Stands old sent left packet
    → Stands new sent left packet
stands_on old new event reply sent left packet is stands = elim (effect old new event reply is).network [
  | inl same ↦ subst (λ n. OnPath n sent.way.source sent.way.destination sent.payload
      sent.way.pieces left packet) (sym same) stands
  | inr some ↦ elim some [
    | inl s ↦ stands_linked old.network new.network s.up s.ia s.number sent.way.source
        sent.way.destination sent.payload sent.way.pieces left packet s.change stands
    | inr k ↦ stands_keyed old.network new.network k.ia k.key sent.way.source sent.way.destination
        sent.payload sent.way.pieces left packet k.change stands
  ]
]

-- ---- the packet after so many of its turns

-- it is on its way, or it was delivered
pub record Flies (net : NetValue) (sent : Shipment) (total done : ℕ) (packet : Packet) : Type 0 where
  pub left : ℕ
  pub stands : Stands net sent left packet
  pub count : left + done ≡ total

pub record Landed (sent : Shipment) (total done : ℕ) (packet : Packet) : Type 0 where
  pub there : packet
      ≡ arrived_with sent.way.source sent.way.destination sent.payload sent.way.pieces
  pub count : total ≤ done

pub record Carried (net : NetValue) (p : ℕ) (sent : Shipment) (total done : ℕ) : Type 0 where
  pub packet : PacketValue
  pub there : slice_get net.packets p ≡ Some packet
  pub holds : packet.sent ≡ sent
  pub state : Flies net sent total done packet.packet ⊎ Landed sent total done packet.packet

-- an event that does not name it
carried_kept : (p : ℕ) (sent : Shipment) (total done : ℕ) (old new : NetValue) (event : EventValue)
    (reply : Reply) → Step old event reply new → Keeps p old new
    → Carried old p sent total done → Carried new p sent total done
carried_kept p sent total done old new event reply is keeps c = record {
  packet = c.packet;
  there = keeps ∙ c.there;
  holds = c.holds;
  state = elim c.state [
    | inl f ↦ inl (record {
      left = f.left;
      stands = stands_on old new event reply sent f.left c.packet.packet is f.stands;
      count = f.count;
    })
    | inr l ↦ inr l
  ];
}

-- ---- a turn of it

pub set_there : {A : Type 0} (xs : List A) (k : ℕ) (x y : A) → slice_get xs k ≡ Some x
    → slice_get (set xs k y) k ≡ Some y
set_there [] k x y there = absurd cc
set_there (z ∷ xs) zero x y there = refl
set_there (z ∷ xs) (suc k) x y there = set_there xs k x y there

-- the packet of the number, in flight or not
pub flying : (net : NetValue) (p : ℕ) (packet : PacketValue) (r : Result (Unit {0}) EventFault)
    → slice_get net.packets p ≡ Some packet → is_in_flight packet.packet.place ≡ r
    → flying_at net p ≡ (r >>= λ _. Ok packet)
flying net p packet r there at =
    ap (λ o. ok_or o faults.NoPacket >>= λ one. is_in_flight one.packet.place >>= λ _. Ok one) there
    ∙ ap (λ s. s >>= λ _. Ok packet) at

in_flight_there : (net : NetValue) (sent : Shipment) (left : ℕ) (packet : Packet)
    → Stands net sent left packet → is_in_flight packet.place ≡ Ok tt
in_flight_there net sent left packet s = ap (λ (q : Packet). is_in_flight q.place) s.is

ended_there : (sent : Shipment) (total done : ℕ) (packet : Packet) → Landed sent total done packet
    → is_in_flight packet.place ≡ Err faults.NotInFlight
ended_there sent total done packet l = ap (λ (q : Packet). is_in_flight q.place) l.there

-- the network after a turn of it
abbrev turned_net : NetValue → ℕ → PacketValue → NetValue
turned_net net p packet =
    with_packet net p packet (turn_of net.network net.moment packet.packet).1

pub leads_ok : (made : Made) (old new : NetValue) (reply : Reply) (done : Reply × NetValue)
    → made ≡ Ok done → Leads made old reply new → (reply ≡ done.0) × (new ≡ done.1)
leads_ok (Ok x) old new reply done is leads =
    let same : x ≡ done = cc in
    (leads.0 ∙ ap (λ (d : Reply × NetValue). d.0) same, leads.1 ∙ ap (λ (d : Reply × NetValue). d.1) same)
leads_ok (Err fault) old new reply done is leads = absurd cc

pub leads_err : (made : Made) (old new : NetValue) (reply : Reply) (fault : EventFault)
    → made ≡ Err fault → Leads made old reply new → new ≡ old
leads_err (Ok x) old new reply fault is leads = absurd cc
leads_err (Err other) old new reply fault is leads = leads.1

turn_carried : (p : ℕ) (sent : Shipment) (total done : ℕ) (old new : NetValue) (reply : Reply)
    → Leads (turns old p) old reply new
    → (is_done reply ≡ true
    → MayForward old.network old.moment sent.way.source sent.way.destination sent.way.pieces)
    → Carried old p sent total done → Carried new p sent total (done + 1)
turn_carried p sent total done old new reply is through c = elim c.state [
  | inl f ↦ (
      let at = flying old p c.packet (Ok tt) c.there (in_flight_there old sent f.left c.packet.packet f.stands) in
      let made =
      ap (λ r. r >>= λ one. Ok (replies.Turned (turn_of old.network old.moment one.packet).0, turned_net old p one)) at in
      let both = leads_ok (turns old p) old new reply
      (replies.Turned (turn_of old.network old.moment c.packet.packet).0, turned_net old p c.packet) made is in
      let next = (turn_of old.network old.moment c.packet.packet).1 in
      let lets = through (ap is_done both.0) in
      let same : new.network ≡ old.network = ap (λ (net : NetValue). net.network) both.1 in
      let count = f.count in
      record {
        packet = record c.packet { packet = next };
        there = ap (λ (net : NetValue). slice_get net.packets p) both.1
            ∙ set_there old.packets p c.packet (record c.packet { packet = next }) c.there;
        holds = c.holds;
        state = elim (one_turn old.network old.moment sent.way.source sent.way.destination sent.payload
            sent.way.pieces f.left c.packet.packet lets f.stands) [
              | inl on ↦ (let one = on.one in inl (record {
                left = on.less;
                stands = subst (λ n. OnPath n sent.way.source sent.way.destination sent.payload
                    sent.way.pieces on.less next) (sym same) on.stands;
                count = omega arith;
              }))
              | inr end ↦ (let one = end.one in inr (record { there = end.there; count = omega arith }))
            ];
      })
  | inr l ↦ (
      let at = flying old p c.packet (Err faults.NotInFlight) c.there (ended_there sent total done c.packet.packet l) in
      let made =
      ap (λ r. r >>= λ one. Ok (replies.Turned (turn_of old.network old.moment one.packet).0, turned_net old p one)) at in
      let same = leads_err (turns old p) old new reply faults.NotInFlight made is in
      let count = l.count in
      record {
        packet = c.packet;
        there = ap (λ (net : NetValue). slice_get net.packets p) same ∙ c.there;
        holds = c.holds;
        state = inr (record { there = l.there; count = omega arith });
      })
]

-- ---- an event that was not done changes nothing

abbrev pub AreDone : Made → Type 0
AreDone (Ok made) = is_done made.0 ≡ true
AreDone (Err fault) = Unit {0}

pub then_done : {A : Type 0} (r : Result A EventFault) (f : A → Made) → ((x : A) → AreDone (f x))
    → AreDone (r >>= f)
then_done (Ok x) f each = each x
then_done (Err fault) f each = tt

pub not_done : (made : Made) (old new : NetValue) (reply : Reply) → Leads made old reply new
    → AreDone made → (is_done reply ≡ true → ⊥) → new ≡ old
not_done (Ok made) old new reply is done never = absurd (never (ap is_done is.0 ∙ done))
not_done (Err fault) old new reply is done never = is.1

same_count : (p : ℕ) (sent : Shipment) (total done : ℕ) (net : NetValue)
    → Carried net p sent total done → Carried net p sent total (done + 0)
same_count p sent total done net c =
    let same : done ≡ done + 0 = omega arith in subst (λ k. Carried net p sent total k) same c

abbrev one_if : Bool → ℕ
one_if b = if b then 1 else 0

-- ---- any event

pub carried_on : (p : ℕ) (sent : Shipment) (total done : ℕ) (old new : NetValue) (event : EventValue)
    (reply : Reply) → Step old event reply new → LetsGoOn p sent old event reply
    → Carried old p sent total done
    → Carried new p sent total (done + one_if (is_turn_of p event))
carried_on p sent total done old new (Turn q) reply is lets c = elim (cases_eq q p) [
  | inl same ↦ rw (eq-eqb q p same) (turn_carried p sent total done old new reply
      (subst (λ k. Leads (turns old k) old reply new) same is) (lets.let_through (ap Turn same)) c)
  | inr other ↦ rw (ne_eqb q p other) (same_count p sent total done new
      (carried_kept p sent total done old new (Turn q) reply is
      (kept p old new (Turn q) reply (slice_get_within old.packets p c.packet c.there) other is) c))
]
carried_on p sent total done old new (Lose q) reply is lets c =
    same_count p sent total done new (elim (cases_eq q p) [
      | inl same ↦ subst (λ (net : NetValue). Carried net p sent total done)
          (sym (not_done (loses old q) old new reply is
          (then_done (flying_at old q) _ (λ one. refl)) (lets.unlost (ap Lose same)))) c
      | inr other ↦ carried_kept p sent total done old new (Lose q) reply is
          (kept p old new (Lose q) reply (slice_get_within old.packets p c.packet c.there) other is) c
    ])
carried_on p sent total done old new (Alter q at change) reply is lets c =
    same_count p sent total done new (elim (cases_eq q p) [
      | inl same ↦ subst (λ (net : NetValue). Carried net p sent total done)
          (sym (not_done (alters old q at change) old new reply is
          (then_done (flying_at old q) _ (λ one.
          then_done _ (λ _. Ok (replies.Done, with_packet old q one (altered_packet one.packet at change))) (λ _. refl)))
          (lets.unaltered at change (ap (λ k. Alter k at change) same)))) c
      | inr other ↦ carried_kept p sent total done old new (Alter q at change) reply is
          (kept p old new (Alter q at change) reply (slice_get_within old.packets p c.packet c.there) other is) c
    ])
carried_on p sent total done old new event reply is lets c =
    same_count p sent total done new (carried_kept p sent total done old new event reply is
    (kept p old new event reply (slice_get_within old.packets p c.packet c.there) (λ names. names) is) c)

-- ---- any events

pub carried_through : (p : ℕ) (sent : Shipment) (total done : ℕ) (net : NetValue) (later : List EventRecord)
    → IsHistory net later → AllLetGoOn p sent net later → Carried net p sent total done
    → Carried (net_after net later) p sent total (done + turns_of p later)
carried_through p sent total done net [] is lets c = same_count p sent total done net c
carried_through p sent total done net (moment ∷ later) is lets c =
    let next = carried_on p sent total done net moment.net moment.event moment.reply is.0 lets.0 c in
    let rest =
    carried_through p sent total (done + one_if (is_turn_of p moment.event)) moment.net later is.1 lets.1 next in
    let more : turns_of p (moment ∷ later) ≡ one_if (is_turn_of p moment.event) + turns_of p later =
    sum_by-cons _ moment later in
    let same : done + one_if (is_turn_of p moment.event) + turns_of p later ≡ done + turns_of p (moment ∷ later) =
    omega (arith, more) in
    subst (λ k. Carried (net_after moment.net later) p sent total k) same rest
