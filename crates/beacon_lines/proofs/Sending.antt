-- What becomes of a beacon that is sent by a way: it arrives at the far end, unless the network has
-- as many beacons as it can hold.
use Rattle.std.proofs.Common.{◌≡◌, ◌⊎◌, ◌<◌, ℕ, Bool, true, false, cond, List, [], ◌∷◌, ◌++◌, length, Contains, count_by, Some, Result, Ok, Err, refl, sym, ap, ◌∙◌, subst, inl, inr, arith}
use Rattle.std.specs.Prelude.{slice_get, nat_lt, ◌^◌}
use Rattle.std.proofs.lemmas.Bool.{cases_Bool, lt-ltb, ltb-true}
use Rattle.path_segment.specs.Chain.{Chain, with_last, IsChainLive}
use Rattle.path_segment.specs.declared.entry.Entry.{Entry}
use Rattle.path_segment.specs.declared.kind.SegKind.{SegKind}
use Rattle.path_server.specs.declared.fault.StoreFault.{StoreFault}
use Rattle.path_server.specs.declared.fault.StoreFault.TheVariants.{Full, Expired}
use Rattle.path_server.specs.Segment.{is_alike}
use Rattle.path_server.specs.Store.{answer_to, with_registered, IsRegisterAnswer}
use Rattle.path_server.proofs.Plain.{answer_is_plain}
use Rattle.beaconing.specs.Calls.{terminated_beacon}
use Rattle.scion_topology.specs.Network.{Network}
use Rattle.network_core.specs.declared.fault.EventFault.{EventFault}
use Rattle.network_core.specs.declared.fault.EventFault.TheVariants as faults
use Rattle.network_core.specs.declared.reply.Reply.{Reply}
use Rattle.network_core.specs.declared.reply.Reply.TheVariants as replies
use Rattle.network_core.specs.Value.{NetValue}
use Rattle.network_core.specs.Step.{Made, has_room, with_beacon, terminates as terminates_in, Leads}
use Rattle.beacon_lines.specs.declared.arrivals.Arrival.{Arrival}
use Rattle.beacon_lines.specs.declared.event.Effect.{Effect}
use Rattle.beacon_lines.specs.declared.event.Effect.TheVariants as effects
use Rattle.beacon_lines.specs.inner.Events.{effect_of, is_stored}
use Rattle.beacon_lines.specs.inner.Spreading.{Ends}
use Rattle.beacon_lines.proofs.Bound.{IsBound, terminates}
use Rattle.beacon_lines.proofs.Growing.{has_itself}

-- ---- steps whose result is known

pub led_to : (made : Made) (old : NetValue) (reply : Reply) (new : NetValue) (x : Reply × NetValue)
    → made ≡ Ok x → Leads made old reply new → (reply ≡ x.0) × (new ≡ x.1)
led_to made old reply new x is leads = subst (λ m. Leads m old reply new) is leads

pub led_nowhere : (made : Made) (old : NetValue) (reply : Reply) (new : NetValue)
    (fault : EventFault)
    → made ≡ Err fault → Leads made old reply new → (reply ≡ replies.Refused fault) × (new ≡ old)
led_nowhere made old reply new fault is leads = subst (λ m. Leads m old reply new) is leads

-- ---- one more beacon

-- the network with this beacon
abbrev pub added : NetValue → Chain → NetValue
added net chain = record net { beacons = net.beacons ++ chain ∷ [] }

-- there was room for the beacon, which has a number now
pub record IsBegun (old : NetValue) (chain : Chain) (effect : Effect) (new : NetValue) : Type
    0 where
  pub room : has_room old.beacons ≡ true
  pub says : effect ≡ effects.Begun (length old.beacons)
  pub is : new ≡ added old chain

-- there was none
pub record IsFull (old : NetValue) (effect : Effect) (new : NetValue) : Type 0 where
  pub full : has_room old.beacons ≡ false
  pub says : effect ≡ effects.Refused
  pub is : new ≡ old

pub begun_effect : (old : NetValue) (chain : Chain) (effect : Effect) (reply : Reply)
    (new : NetValue)
    → effect ≡ effect_of reply → Leads (with_beacon old chain) old reply new
    → IsBegun old chain effect new ⊎ IsFull old effect new
begun_effect old chain effect reply new says leads = elim (cases_Bool (has_room old.beacons)) [
  | inl room ↦ (
      let made : with_beacon old chain ≡ Ok (replies.Begun (length old.beacons), added old chain) =
      rw room refl in
      let led = led_to (with_beacon old chain) old reply new _ made leads in
      let small = ltb-true (length old.beacons) 1_000_000 room in
      let fits : nat_lt (length old.beacons) (2 ^ 32) ≡ true = lt-ltb _ _ (omega arith) in
      let numbered : effect_of (replies.Begun (length old.beacons)) ≡ effects.Begun
      (length old.beacons) = rw fits refl in
      inl (record { room = room; says = says ∙ ap effect_of led.0 ∙ numbered; is = led.1 }))
  | inr full ↦ (
      let made : with_beacon old chain ≡ Err faults.TooMany = rw full refl in
      let led = led_nowhere (with_beacon old chain) old reply new faults.TooMany made leads in
      inr (record { full = full; says = says ∙ ap effect_of led.0; is = led.1 }))
]

-- ---- a beacon that is ended

-- a segment of this second is live
live_now : (segment : Chain) (now : ℕ) → segment.timestamp ≡ now → IsChainLive segment now
live_now segment now begun = λ k d within. omega arith

taken : (segments : List Chain) (segment : Chain) (now : ℕ) (answer : Result Bool StoreFault)
    → IsRegisterAnswer segments segment now answer → IsChainLive segment now
    → count_by (is_alike segment) segments < 32 → (is_new : Bool) × (answer ≡ Ok is_new)
taken segments segment now (Ok is_new) is live few = (is_new, refl)
taken segments segment now (Err Expired) is live few = absurd (is live)
taken segments segment now (Err Full) is live few = absurd (let many = is.2 in omega arith)

-- a beacon that is there is ended, and its segment registered
registers : (old : NetValue) (beacon ia : ℕ) (chain segment : Chain) (is_new : Bool)
    → slice_get old.beacons beacon ≡ Some chain → terminated_beacon old.network chain ia ≡ Ok
    segment
    → answer_to old.segments segment old.moment ≡ Ok is_new
    → terminates_in old beacon ia
    ≡ Ok (
      replies.Registered is_new,
      record old
          { segments = with_registered old.segments segment old.moment },
    )
registers old beacon ia chain segment is_new there call answer = rw (there, call, answer) refl

-- the beacon of an arrival was ended, and its segment is stored
pub record IsEnded (n : Network) (chain : Chain) (arrival : Arrival) (old : NetValue)
    (before : List Arrival) (new : NetValue) (after : List Arrival) : Type 0 where
  pub last : Entry
  pub of : last.ia ≡ arrival.ia
  pub is : new ≡ record old {
    segments = with_registered old.segments (with_last chain last)
        old.moment;
  }
  pub stored : Contains new.segments (with_last chain last)
  pub arrives : after ≡ before ++ arrival ∷ []

pub ended : (n : Network) (now : ℕ) (kind : SegKind) (first : ℕ) (chain : Chain) (arrival : Arrival)
    (old : NetValue) (before : List Arrival) (new : NetValue) (after : List Arrival)
    → old.network ≡ n → old.moment ≡ now → IsBound n now kind first arrival.ia chain
    → slice_get old.beacons arrival.beacon ≡ Some chain
    → ((last : Entry) → last.ia ≡ arrival.ia → count_by (is_alike (with_last chain last))
    old.segments < 32)
    → Ends arrival old before new after → IsEnded n chain arrival old before new after
ended n now kind first chain arrival old before new after network moment bound there few ends =
    let made = terminates n now kind first arrival.ia chain bound in
    let last = made.0 in
    let segment = with_last chain last in
    let call : terminated_beacon old.network chain arrival.ia ≡ Ok segment =
    ap (λ (m : Network). terminated_beacon m chain arrival.ia) network ∙ made.1.1 in
    let live = live_now segment old.moment (bound.begun ∙ sym moment) in
    let answer = taken old.segments segment old.moment (answer_to old.segments segment old.moment)
    (answer_is_plain old.segments segment old.moment) live (few last made.1.0) in
    let new_net : NetValue = record old
    { segments = with_registered old.segments segment old.moment } in
    let is_made : terminates_in old arrival.beacon arrival.ia ≡ Ok
    (replies.Registered answer.0, new_net) =
    registers old arrival.beacon arrival.ia chain segment answer.0 there call answer.1 in
    let led = led_to (terminates_in old arrival.beacon arrival.ia) old ends.happens.reply new _
    is_made ends.happens.step in
    let effect : ends.effect ≡ effects.Stored answer.0 = ends.happens.says ∙ ap effect_of led.0 in
    record {
      last = last;
      of = made.1.0;
      is = led.1;
      stored = subst (λ (m : NetValue). Contains m.segments segment) (sym led.1)
          (has_itself old.segments segment old.moment answer.0 answer.1);
      arrives = ends.arrives ∙ ap (λ (e : Effect). cond (is_stored e) (before ++ arrival ∷ [])
          before) effect;
    }
