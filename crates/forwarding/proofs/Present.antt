-- A turn of a packet at a router that the network has is done, and leaves it at such a router or at
-- none.
use Rattle.std.proofs.Common.{◌≡◌, ◌≢◌, ℕ, ◌<◌, Bool, List, Result, Ok, Err, Some, IsOk, refl, sym, ap, ◌∙◌, subst, inl, inr}
use Rattle.std.specs.Prelude.{nat_lt}
use Rattle.std.specs.Result.{is_ok}
use Rattle.std.proofs.lemmas.Bool.{cases_eq, ltb-true}
use Rattle.refusal.proofs.Steps.{bind_ok, guard_ok, ok_is, ok_or_ok}
use Rattle.scion_topology.specs.declared.fault.TopologyFault.{TopologyFault}
use Rattle.scion_topology.specs.declared.fault.TopologyFault.TheVariants as faults
use Rattle.scion_topology.specs.declared.network.AsEntry.{AsEntry}
use Rattle.scion_topology.specs.View.{View}
use Rattle.scion_topology.specs.Keys.{renewed_keys}
use Rattle.scion_topology.specs.Network.{Network, as_named}
use Rattle.scion_topology.specs.Topology.{IsNetwork, known_as, view_in, owner_in, far_end_in, set_up, with_rotated_key}
use Rattle.scion_topology.proofs.Lasting.{same_ases, named_renewed, named_still}
use Rattle.path_header.specs.Value.{HeaderValue}
use Rattle.router_step.specs.declared.arrival.Arrival.TheVariants.{Inside, Link}
use Rattle.router_step.specs.declared.outcome.Outcome.{Outcome}
use Rattle.router_step.specs.declared.outcome.Outcome.TheVariants.{ToLink, ToRouter, Deliver}
use Rattle.router_step.specs.declared.fault.Refusal.{Refusal}
use Rattle.router_step.specs.Packet.{source_of, destination_of, header_in, packet_step}
use Rattle.router_step.specs.Step.{step_of}
use Rattle.router_step.specs.Done.{Situation, at_the_way_out}
use Rattle.router_step.proofs.StepLaws.{to_owner}
use Rattle.forwarding.specs.declared.location.RouterStop.{RouterStop}
use Rattle.forwarding.specs.declared.location.PacketLocation.TheVariants.{AtRouter}
use Rattle.forwarding.specs.declared.reply.TurnReply.TheVariants as replies
use Rattle.forwarding.specs.Turn.{Packet, after_outcome, over_link, at_owner, at_place, after_step, turn_under, turn_of, turned_packet}
use Rattle.forwarding.proofs.Bounded.{ok_there, owners_are_there}
use Rattle.forwarding.proofs.Ended.{turn_by_view}
use Rattle.forwarding.proofs.Onward.{way_of, seen_as, entry_there, leads_on}
use Rattle.forwarding.proofs.Routers.{view_is}

-- ---- the turn is done

turn_is : (n : Network) (now : ℕ) (packet : Packet) (stop : RouterStop) (view : View)
    → packet.place ≡ AtRouter stop → view_in n stop.ia stop.router ≡ Ok view
    → turn_of n now packet ≡ after_step n packet stop (packet_step view now stop.arrival packet.bytes)
unfolding turn_under
turn_is n now packet stop view at seen =
    sym (turn_by_view n now packet stop view at seen) ∙ ap (at_place n view now packet) at

not_still : (n : Network) (packet : Packet) (stop : RouterStop) (r : Result (Outcome × List ℕ) Refusal)
    → (after_step n packet stop r).0 ≢ replies.Still
not_still n packet stop (Ok done) same = absurd cc
not_still n packet stop (Err refusal) same = absurd cc

pub turn_is_done : (n : Network) (now : ℕ) (packet : Packet) (stop : RouterStop)
    → packet.place ≡ AtRouter stop → IsOk (view_in n stop.ia stop.router)
    → (turn_of n now packet).0 ≢ replies.Still
turn_is_done n now packet stop at there same =
    let view = ok_there (view_in n stop.ia stop.router) there in
    not_still n packet stop (packet_step view.0 now stop.arrival packet.bytes)
    (ap (λ t. t.0) (sym (turn_is n now packet stop view.0 at view.1)) ∙ same)

-- ---- where it leaves the packet

-- where the packet is at a router, the network has that router
abbrev pub IsPresent : Network → Packet → Type 0
IsPresent n packet =
    (stop : RouterStop) → packet.place ≡ AtRouter stop → IsOk (view_in n stop.ia stop.router)

module _ (n : Network) (network : IsNetwork n) (stop : RouterStop) (view : View)
    (seen : view_in n stop.ia stop.router ≡ Ok view) where
  at_far_end : (packet : Packet) (out ia number : ℕ) (owner : Result ℕ TopologyFault)
      → owner_in n ia number ≡ owner → IsPresent n packet
      → IsPresent n (at_owner packet stop out ia number owner)
  at_far_end packet out ia number (Ok router) owned before = λ next at. (
      let here : RouterStop = record { ia = ia; router = router; arrival = Link number; came_in_by = number } in
      let same : here ≡ next = cc in
      subst (λ (s : RouterStop). IsOk (view_in n s.ia s.router)) same
      (owners_are_there n ia number router network owned))
  at_far_end packet out ia number (Err fault) owned before = before

  beyond : (packet : Packet) (out : ℕ) (end : Result (ℕ × ℕ) TopologyFault) → IsPresent n packet
      → IsPresent n (over_link n packet stop out end)
  beyond packet out (Ok end) before =
      at_far_end packet out end.0 end.1 (owner_in n end.0 end.1) refl before
  beyond packet out (Err fault) before = before

  to_router : (now source destination router : ℕ) (header new : HeaderValue)
      → step_of view now stop.arrival source destination header ≡ Ok (ToRouter router, new)
      → IsOk (view_in n stop.ia router)
  to_router now source destination router header new done =
      let at : Situation = record {
        view = view;
        now = now;
        arrival = stop.arrival;
        source = source;
        destination = destination;
        header = header;
      } in
      let owner = to_owner at router new done in
      let way = way_of (at_the_way_out at) in
      let shown = entry_there n stop.ia stop.router way view owner.1.0
      (seen_as n stop.ia stop.router view seen) owner.1.1.1 in
      let leads = leads_on n stop.ia way owner.1.0 network shown in
      owners_are_there n stop.ia way router network (leads.owner ∙ ap (λ r. Ok r) owner.1.1.0)

  module _ (packet : Packet) (at : packet.place ≡ AtRouter stop) where
    abbrev bearing : List ℕ → Packet
    bearing bytes = record packet { bytes = bytes }

    still_there : (bytes : List ℕ) → IsPresent n (bearing bytes)
    still_there bytes next is =
        let same : stop ≡ next = (let both = sym at ∙ is in cc) in
        subst (λ (s : RouterStop). IsOk (view_in n s.ia s.router)) same (ap is_ok seen)

    goes : (now source destination : ℕ) (bytes : List ℕ) (outcome : Outcome)
        (header new : HeaderValue)
        → step_of view now stop.arrival source destination header ≡ Ok (outcome, new)
        → IsPresent n (after_outcome n (bearing bytes) stop outcome)
    goes now source destination bytes (ToLink out) header new done =
        beyond (bearing bytes) out (far_end_in n stop.ia out) (still_there bytes)
    goes now source destination bytes (ToRouter router) header new done = λ next is. (
        let here : RouterStop = record stop { router = router; arrival = Inside } in
        let same : here ≡ next = cc in
        subst (λ (s : RouterStop). IsOk (view_in n s.ia s.router)) same
        (to_router now source destination router header new done))
    goes now source destination bytes Deliver header new done = λ next is. absurd cc

    by_step : (now : ℕ) (r : Result (Outcome × List ℕ) Refusal)
        → packet_step view now stop.arrival packet.bytes ≡ r
        → IsPresent n (after_step n packet stop r).1
    unfolding packet_step
    by_step now (Ok done) is =
        let front = bind_ok (header_in packet.bytes) _ done is in
        let step = bind_ok (step_of view now stop.arrival (source_of packet.bytes)
        (destination_of packet.bytes) front.0.0) _ done front.2 in
        let outcome : step.0.0 ≡ done.0 = ap (λ (d : Outcome × List ℕ). d.0) (ok_is _ done step.2) in
        subst (λ o. IsPresent n (after_outcome n (bearing done.1) stop o)) outcome
        (goes now (source_of packet.bytes) (destination_of packet.bytes) done.1 step.0.0 front.0.0
        step.0.1 step.1)
    by_step now (Err refusal) is = λ next same. absurd cc

pub turn_stays_present : (n : Network) (now : ℕ) (packet : Packet) (stop : RouterStop) → IsNetwork n
    → packet.place ≡ AtRouter stop → IsOk (view_in n stop.ia stop.router)
    → IsPresent n (turned_packet n now packet)
turn_stays_present n now packet stop network at there =
    let view = ok_there (view_in n stop.ia stop.router) there in
    subst (IsPresent n) (ap (λ t. t.1) (sym (turn_is n now packet stop view.0 at view.1)))
    (by_step n network stop view.0 view.1 packet at now _ refl)

-- ---- routers stay

has_router : (n : Network) (ia router : ℕ) → IsOk (view_in n ia router)
    → (one : AsEntry) × ((as_named n.ases ia ≡ Some one) × (router < one.routers))
unfolding view_in
has_router n ia router there =
    let view = ok_there (view_in n ia router) there in
    let at = bind_ok (known_as n ia) _ view.0 view.1 in
    let passed = guard_ok (nat_lt router at.0.routers) _ faults.NoRouter view.0 at.2 in
    (at.0, (ok_or_ok (as_named n.ases ia) faults.UnknownAs at.0 at.1, ltb-true router at.0.routers passed.0))

pub router_linked : (up : Bool) (x y : ℕ) (n m : Network) (ia router : ℕ) → set_up up x y n ≡ Ok m
    → IsOk (view_in n ia router) → IsOk (view_in m ia router)
router_linked up x y n m ia router change there =
    let one = has_router n ia router there in
    ap is_ok (view_is m ia router one.0
    (ap (λ ases. as_named ases ia) (same_ases up x y n m change) ∙ one.1.0) one.1.1)

pub router_keyed : (x : ℕ) (key : List ℕ) (n m : Network) (ia router : ℕ) → with_rotated_key x key n ≡ Ok m
    → IsOk (view_in n ia router) → IsOk (view_in m ia router)
router_keyed x key n m ia router change there =
    let one = has_router n ia router there in
    elim (cases_eq x ia) [
      | inl same ↦ (
          let named = named_renewed x key n m one.0 change (ap (as_named n.ases) same ∙ one.1.0) in
          ap is_ok (view_is m ia router (record one.0 { keys = renewed_keys key one.0.keys })
          (ap (as_named m.ases) (sym same) ∙ named) one.1.1))
      | inr other ↦ ap is_ok (view_is m ia router one.0
          (named_still x ia key n m change other ∙ one.1.0) one.1.1)
    ]
