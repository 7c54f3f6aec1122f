-- A packet has at most two turns for each of its hop fields.
use Rattle.std.proofs.Common.{◌≡◌, ℕ, zero, suc, ◌+◌, ◌*◌, ◌<◌, ◌≤◌, ◌⊎◌, List, [], ◌∷◌, ◌++◌, length, Result, Ok, Err, Some, IsOk, refl, sym, ap, ◌∙◌, subst, arith, inl, inr}
use Rattle.std.specs.Prelude.{nat_lt}
use Rattle.std.specs.Result.{is_ok}
use Rattle.std.proofs.lemmas.Bool.{cases_Bool}
use Rattle.std.proofs.lemmas.List.{length_push}
use Rattle.std.proofs.Math.Nat.{lt_of_not-le}
use Rattle.refusal.specs.Refusal.{◌>>=◌}
use Rattle.scion_topology.specs.View.{View, entry_of}
use Rattle.scion_topology.specs.Network.{Network}
use Rattle.scion_topology.specs.Topology.{IsNetwork, view_in, owner_in}
use Rattle.path_header.specs.Value.{HeaderValue, IsHeader}
use Rattle.path_header.specs.Spelling.{FitsBits, spelling}
use Rattle.path_header.proofs.WholeHeader.{spelling_spells}
use Rattle.router_step.specs.declared.arrival.Arrival.{Arrival}
use Rattle.router_step.specs.declared.arrival.Arrival.TheVariants.{FromHost, Inside, Link}
use Rattle.router_step.specs.declared.outcome.Outcome.{Outcome}
use Rattle.router_step.specs.declared.outcome.Outcome.TheVariants.{ToLink, ToRouter, Deliver}
use Rattle.router_step.specs.declared.fault.Refusal.{Refusal}
use Rattle.router_step.specs.Packet.{source_of, destination_of, IsFrame}
use Rattle.router_step.specs.Step.{step_of}
use Rattle.router_step.specs.Done.{Situation, DoesStep, at_the_way_out}
use Rattle.router_step.proofs.Frames.{frame_stepped}
use Rattle.router_step.proofs.StepLaws.{new_header, over_own_link, to_owner}
use Rattle.router_step.proofs.Continuing.{header_again}
use Rattle.router_step.proofs.Fits.{fits_again}
use Rattle.forwarding.specs.declared.location.RouterStop.{RouterStop}
use Rattle.forwarding.specs.declared.location.PacketLocation.TheVariants.{AtRouter}
use Rattle.forwarding.specs.Frame.{addresses, frame_of}
use Rattle.policy_expr.specs.declared.hop.WalkHop.{WalkHop}
use Rattle.forwarding.specs.Turn.{Packet, IsAtNoRouter, put_at, with_passed_hop, hop_by, after_outcome, over_link, at_owner, at_place, after_step, turn_under, turned_packet, after}
use Rattle.forwarding.proofs.Ended.{ended_stays, turn_by_view}
use Rattle.forwarding.proofs.Framed.{is_frame}
use Rattle.forwarding.proofs.Onward.{Owns, way_of, leaves_from_inside, IsSeen, seen_as, entry_there, leads_on, owner_is_there}
use Rattle.forwarding.proofs.Routers.{view_for}

-- ---- how far a packet is from its end

-- the turns that a packet has had in the AS in which it stands
abbrev spent : Arrival → ℕ
spent FromHost = 0
spent Inside = 1
spent (Link interface) = 0

-- a packet that came from inside the AS stands at the owner of its way out
abbrev IsHeld : View → Arrival → HeaderValue → Type 0
IsHeld view FromHost header = Unit {0}
IsHeld view Inside header = Owns view (way_of header)
IsHeld view (Link interface) header = Unit {0}

-- a packet with this number of hop fields at a router of the network, at most so many turns from its
-- end: two for each hop field from the current one on, less those that it has had there. It has
-- passed at most one hop for each hop field before the current one.
record IsNear (n : Network) (total left : ℕ) (packet : Packet) : Type 0 where
  stop : RouterStop
  there : packet.place ≡ AtRouter stop
  view : View
  seen : view_in n stop.ia stop.router ≡ Ok view
  front : List ℕ
  text : List ℕ
  rest : List ℕ
  header : HeaderValue
  frame : IsFrame packet.bytes front text rest header
  held : IsHeld view stop.arrival header
  count : length header.hops ≡ total
  few : 2 * length header.hops ≤ left + (2 * header.curr_hf + spent stop.arrival)
  so_far : length packet.passed ≤ header.curr_hf

-- where a turn leaves it: at no router, or at one and nearer to its end
abbrev Nears : (n : Network) (total left : ℕ) (packet : Packet) → Type 0
Nears n total left packet = IsAtNoRouter packet ⊎ IsNear n total left packet

one_spent : (arrival : Arrival) → spent arrival ≤ 1
one_spent FromHost = omega arith
one_spent Inside = omega arith
one_spent (Link interface) = omega arith

some_left : (n : Network) (total left : ℕ) (packet : Packet) → IsNear n total left packet → 0 < left
some_left n total left packet near =
    let within = near.frame.spells.is_header.curr_hf in
    let few = near.few in
    let most = one_spent near.stop.arrival in
    omega arith

-- a packet that goes to another router of the AS did not come from inside
was_outside : (view : View) (now : ℕ) (arrival : Arrival) (source destination router : ℕ)
    (header new : HeaderValue) → IsHeader header → IsHeld view arrival header
    → step_of view now arrival source destination header ≡ Ok (ToRouter router, new)
    → spent arrival ≡ 0
was_outside view now FromHost source destination router header new is held done = refl
was_outside view now Inside source destination router header new is held done =
    absurd (leaves_from_inside view now source destination router header new is held done)
was_outside view now (Link interface) source destination router header new is held done = refl

-- ---- a turn

-- a noted hop is at most one more
one_noted : (passed : List WalkHop) (hop : WalkHop) → length (with_passed_hop passed hop) ≤ length passed + 1
one_noted passed hop = elim (cases_Bool (nat_lt (length passed) 64)) [
  | inl fewer ↦ rw fewer (let more = length_push passed hop in omega arith)
  | inr full ↦ rw full (omega arith)
]

module _ (n : Network) (network : IsNetwork n) (total : ℕ) where
  module _ (less now : ℕ) (packet : Packet) (near : IsNear n total (1 + less) packet) where
    abbrev at : Situation
    at = record {
      view = near.view;
      now = now;
      arrival = near.stop.arrival;
      source = source_of packet.bytes;
      destination = destination_of packet.bytes;
      header = near.header;
    }

    -- the packet with a new header
    abbrev bearing : HeaderValue → Packet
    bearing new = record packet { bytes = near.front ++ (spelling new ++ near.rest) }

    again : (outcome : Outcome) (new : HeaderValue) → DoesStep at outcome new
        → IsFrame (bearing new).bytes near.front (spelling new) near.rest new
    again outcome new done =
        let is = header_again at outcome new near.frame.spells.is_header done in
        let fits = fits_again at outcome new near.frame.spells.is_header near.frame.spells.fits
        done in
        record { whole = refl; two = near.frame.two; spells = spelling_spells new is fits }

    seen : IsSeen n near.stop.ia near.stop.router near.view
    seen = seen_as n near.stop.ia near.stop.router near.view near.seen

    to_router : (router : ℕ) (new : HeaderValue) → DoesStep at (ToRouter router) new
        → IsNear n total less (after_outcome n (bearing new) near.stop (ToRouter router))
    to_router router new done =
        let made = new_header at (ToRouter router) new done in
        let owner = to_owner at router new done in
        let way : way_of (at_the_way_out at) ≡ way_of new = ap way_of (sym made) in
        let known : entry_of near.view (way_of new) ≡ Some owner.1.0 =
        ap (entry_of near.view) (sym way) ∙ owner.1.1.1 in
        let shown = entry_there n near.stop.ia near.stop.router (way_of new) near.view owner.1.0
        seen known in
        let leads = leads_on n near.stop.ia (way_of new) owner.1.0 network shown in
        let there = owner_is_there n near.stop.ia (way_of new) router network
        (leads.owner ∙ ap (λ r. Ok r) owner.1.1.0) in
        let outside = was_outside near.view now near.stop.arrival (source_of packet.bytes)
        (destination_of packet.bytes) router near.header new near.frame.spells.is_header near.held
        done in
        let hops : length new.hops ≡ length near.header.hops =
        ap (λ (h : HeaderValue). length h.hops) made in
        let hop : new.curr_hf ≡ (at_the_way_out at).curr_hf =
        ap (λ (h : HeaderValue). h.curr_hf) made in
        let few = near.few in
        let so_far = near.so_far in
        record {
          stop = record near.stop { router = router; arrival = Inside };
          there = refl;
          view = view_for n there.0 near.stop.ia router;
          seen = there.1;
          front = near.front;
          text = spelling new;
          rest = near.rest;
          header = new;
          frame = again (ToRouter router) new done;
          held = record {
            entry = owner.1.0;
            known = ap (λ (v : View). entry_of v (way_of new)) seen.is ∙ known;
            own = owner.1.1.0;
          };
          count = hops ∙ near.count;
          few = omega arith;
          so_far = omega arith;
        }

    to_link : (out : ℕ) (new : HeaderValue) → DoesStep at (ToLink out) new
        → IsNear n total less (after_outcome n (bearing new) near.stop (ToLink out))
    to_link out new done =
        let made = new_header at (ToLink out) new done in
        let own = (over_own_link at out new done).1 in
        let shown = entry_there n near.stop.ia near.stop.router out near.view own.0 seen
        own.1.known in
        let leads = leads_on n near.stop.ia out own.0 network shown in
        let far = leads.far in
        let there = owner_is_there n far.ia far.number far.router network leads.far_owner in
        let crosses : after_outcome n (bearing new) near.stop (ToLink out)
        ≡ at_owner (bearing new) near.stop out far.ia far.number (Ok far.router) =
        ap (over_link n (bearing new) near.stop out) leads.leads
        ∙ ap (at_owner (bearing new) near.stop out far.ia far.number) leads.far_owner in
        let hops : length new.hops ≡ length near.header.hops =
        ap (λ (h : HeaderValue). length h.hops) made in
        let hop : new.curr_hf ≡ (at_the_way_out at).curr_hf + 1 =
        ap (λ (h : HeaderValue). h.curr_hf) made in
        let few = near.few in
        let most = one_spent near.stop.arrival in
        let so_far = near.so_far in
        let one = one_noted packet.passed (hop_by near.stop out) in
        subst (IsNear n total less) (sym crosses) (record {
          stop = record {
            ia = far.ia;
            router = far.router;
            arrival = Link far.number;
            came_in_by = far.number;
          };
          there = refl;
          view = view_for n there.0 far.ia far.router;
          seen = there.1;
          front = near.front;
          text = spelling new;
          rest = near.rest;
          header = new;
          frame = again (ToLink out) new done;
          held = tt;
          count = hops ∙ near.count;
          few = omega arith;
          so_far = omega arith;
        })

    where_it_goes : (outcome : Outcome) (new : HeaderValue) → DoesStep at outcome new
        → Nears n total less (after_outcome n (bearing new) near.stop outcome)
    where_it_goes (ToLink out) new done = inr (to_link out new done)
    where_it_goes (ToRouter router) new done = inr (to_router router new done)
    where_it_goes Deliver new done = inl (λ stop same. absurd cc)

    abbrev answer : Outcome × HeaderValue → Result (Outcome × List ℕ) Refusal
    answer done = Ok (done.0, near.front ++ (spelling done.1 ++ near.rest))

    by_step : (step : Result (Outcome × HeaderValue) Refusal)
        → step_of near.view now near.stop.arrival (source_of packet.bytes)
        (destination_of packet.bytes) near.header ≡ step
        → Nears n total less (after_step n packet near.stop (step >>= answer)).1
    by_step (Ok done) is = where_it_goes done.0 done.1 is
    by_step (Err refusal) is = inl (λ stop same. absurd cc)

    turn_is : turned_packet n now packet ≡ (after_step n packet near.stop (step_of near.view now
        near.stop.arrival (source_of packet.bytes) (destination_of packet.bytes) near.header
        >>= answer)).1
    unfolding turn_under
    turn_is =
        ap (λ t. t.1) (sym (turn_by_view n now packet near.stop near.view near.there near.seen))
        ∙ ap (λ p. (at_place n near.view now packet p).1) near.there
        ∙ ap (λ (r : Result (Outcome × List ℕ) Refusal). (after_step n packet near.stop r).1)
        (frame_stepped near.view now near.stop.arrival packet.bytes near.front near.text near.rest
        near.header near.frame)

    one_turn : Nears n total less (turned_packet n now packet)
    one_turn = subst (Nears n total less) (sym turn_is) (by_step _ refl)

  -- ---- turn by turn

  ended_on : (moments : List ℕ) (packet : Packet) → IsAtNoRouter packet
      → IsAtNoRouter (after n packet moments)
  ended_on [] packet ended = ended
  ended_on (now ∷ later) packet ended =
      ended_on later (turned_packet n now packet)
      (subst IsAtNoRouter (sym (ap (λ t. t.1) (ended_stays n now packet ended))) ended)

  ended_after : (moments : List ℕ) (left : ℕ) (packet : Packet) → IsNear n total left packet
      → left ≤ length moments → IsAtNoRouter (after n packet moments)
  ended_after [] left packet near enough =
      absurd (
      let some = some_left n total left packet near in
      omega arith)
  ended_after (now ∷ later) zero packet near enough =
      absurd (
      let some = some_left n total 0 packet near in
      omega arith)
  ended_after (now ∷ later) (suc less) packet near enough =
      let one : suc less ≡ 1 + less = omega arith in
      elim (one_turn less now packet (subst (λ k. IsNear n total k packet) one near)) [
        | inl ended ↦ ended_on later (turned_packet n now packet) ended
        | inr nearer ↦ ended_after later less (turned_packet n now packet) nearer (omega arith)
      ]

  -- and wherever it stands, the network has the router
  there_after : (moments : List ℕ) (left : ℕ) (packet : Packet) (stop : RouterStop) → Nears n total left packet
      → (after n packet moments).place ≡ AtRouter stop → IsOk (view_in n stop.ia stop.router)
  there_after [] left packet stop (inl ended) at = absurd (ended stop at)
  there_after [] left packet stop (inr near) at =
      let same : near.stop ≡ stop = (let both = sym near.there ∙ at in cc) in
      subst (λ (s : RouterStop). IsOk (view_in n s.ia s.router)) same (ap is_ok near.seen)
  there_after (now ∷ later) left packet stop (inl ended) at =
      absurd (ended_on (now ∷ later) packet ended stop at)
  there_after (now ∷ later) zero packet stop (inr near) at =
      absurd (
      let some = some_left n total 0 packet near in
      omega arith)
  there_after (now ∷ later) (suc less) packet stop (inr near) at =
      let one : suc less ≡ 1 + less = omega arith in
      there_after later less (turned_packet n now packet) stop
      (one_turn less now packet (subst (λ k. IsNear n total k packet) one near)) at

  -- it has passed fewer hops than it has hop fields
  passed_after : (moments : List ℕ) (left : ℕ) (packet : Packet) (stop : RouterStop)
      → Nears n total left packet → (after n packet moments).place ≡ AtRouter stop
      → length (after n packet moments).passed < total
  passed_after [] left packet stop (inl ended) at = absurd (ended stop at)
  passed_after [] left packet stop (inr near) at =
      let within = near.frame.spells.is_header.curr_hf in
      let so_far = near.so_far in
      let count = near.count in
      omega arith
  passed_after (now ∷ later) left packet stop (inl ended) at =
      absurd (ended_on (now ∷ later) packet ended stop at)
  passed_after (now ∷ later) zero packet stop (inr near) at =
      absurd (
      let some = some_left n total 0 packet near in
      omega arith)
  passed_after (now ∷ later) (suc less) packet stop (inr near) at =
      let one : suc less ≡ 1 + less = omega arith in
      passed_after later less (turned_packet n now packet) stop
      (one_turn less now packet (subst (λ k. IsNear n total k packet) one near)) at

-- ---- from a host

pub ok_there : {A F : Type 0} (r : Result A F) → IsOk r → (x : A) × (r ≡ Ok x)
ok_there (Ok x) is = (x, refl)
ok_there (Err fault) is = absurd cc

starts : (n : Network) (source destination ia router : ℕ) (header : HeaderValue)
    (payload : List ℕ) → IsOk (view_in n ia router) → IsHeader header → FitsBits header
    → IsNear n (length header.hops) (2 * length header.hops)
    (put_at (frame_of source destination header payload) ia router)
starts n source destination ia router header payload there is fits =
    let view = ok_there (view_in n ia router) there in
    record {
      stop = record { ia = ia; router = router; arrival = FromHost; came_in_by = 0 };
      there = refl;
      view = view.0;
      seen = view.1;
      front = addresses source destination;
      text = spelling header;
      rest = payload;
      header = header;
      frame = is_frame source destination header payload (spelling_spells header is fits);
      held = tt;
      count = refl;
      few = omega arith;
      so_far = omega arith;
    }

pub ended_in_time : (n : Network) (source destination ia router : ℕ) (header : HeaderValue)
    (payload moments : List ℕ) → IsNetwork n → IsOk (view_in n ia router) → IsHeader header
    → FitsBits header → 2 * length header.hops ≤ length moments
    → IsAtNoRouter (after n (put_at (frame_of source destination header payload) ia router) moments)
ended_in_time n source destination ia router header payload moments network there is fits enough =
    ended_after n network (length header.hops) moments (2 * length header.hops)
    (put_at (frame_of source destination header payload) ia router)
    (starts n source destination ia router header payload there is fits) enough

pub fewer_before : (n : Network) (source destination ia router : ℕ) (header : HeaderValue)
    (payload moments : List ℕ) (stop : RouterStop) → IsNetwork n → IsOk (view_in n ia router)
    → IsHeader header → FitsBits header
    → (after n (put_at (frame_of source destination header payload) ia router) moments).place
    ≡ AtRouter stop
    → length moments < 2 * length header.hops
fewer_before n source destination ia router header payload moments stop network there is fits at =
    lt_of_not-le (λ enough.
    ended_in_time n source destination ia router header payload moments network there is fits
    enough stop at)

pub owners_are_there : (n : Network) (ia number router : ℕ) → IsNetwork n
    → owner_in n ia number ≡ Ok router → IsOk (view_in n ia router)
owners_are_there n ia number router network owned =
    ap is_ok (owner_is_there n ia number router network owned).1

pub stops_are_there : (n : Network) (source destination ia router : ℕ) (header : HeaderValue)
    (payload moments : List ℕ) (stop : RouterStop) → IsNetwork n → IsOk (view_in n ia router)
    → IsHeader header → FitsBits header
    → (after n (put_at (frame_of source destination header payload) ia router) moments).place
    ≡ AtRouter stop
    → IsOk (view_in n stop.ia stop.router)
stops_are_there n source destination ia router header payload moments stop network there is fits
    at = there_after n network (length header.hops) moments (2 * length header.hops)
    (put_at (frame_of source destination header payload) ia router) stop
    (inr (starts n source destination ia router header payload there is fits)) at

pub passed_before : (n : Network) (source destination ia router : ℕ) (header : HeaderValue)
    (payload moments : List ℕ) (stop : RouterStop) → IsNetwork n → IsOk (view_in n ia router)
    → IsHeader header → FitsBits header
    → (after n (put_at (frame_of source destination header payload) ia router) moments).place
    ≡ AtRouter stop
    → length (after n (put_at (frame_of source destination header payload) ia router) moments).passed
    < length header.hops
passed_before n source destination ia router header payload moments stop network there is fits at =
    passed_after n network (length header.hops) moments (2 * length header.hops)
    (put_at (frame_of source destination header payload) ia router) stop
    (inr (starts n source destination ia router header payload there is fits)) at
