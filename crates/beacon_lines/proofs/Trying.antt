-- What one try to send a beacon by a way does, whether it is wanted or not.
use Rattle.std.proofs.Common.{◌≡◌, ◌⊎◌, ◌+◌, ◌≤◌, ◌<◌, ℕ, Bool, true, false, eqb, not, ◌&&◌, List, length, Contains, count_by, Option, Some, Ok, refl, sym, ap, ◌∙◌, subst, inl, inr, arith}
use Rattle.std.specs.Prelude.{slice_get, nat_lt}
use Rattle.std.specs.List.{list_any}
use Rattle.std.specs.Option.{ok_or, option_map_or}
use Rattle.std.proofs.lemmas.Bool.{cases_Bool, ltb-true, ltb-false, and_parts, and_cases, not-true, not-false, true≢false}
use Rattle.std.proofs.lemmas.List.{length_push}
use Rattle.refusal.specs.Refusal.{◌>>=◌, refused_as}
use Rattle.scion_topology.specs.Network.{Network, as_named}
use Rattle.scion_topology.specs.Topology.{IsNetwork}
use Rattle.scion_topology.specs.Causes.{is_core}
use Rattle.scion_topology.specs.declared.network.AsEntry.{AsEntry}
use Rattle.path_segment.specs.Chain.{Chain, with_last}
use Rattle.path_segment.specs.declared.entry.Entry.{Entry}
use Rattle.path_server.specs.Segment.{is_alike}
use Rattle.beaconing.specs.Calls.{originated_beacon, extended_beacon, is_new}
use Rattle.network_core.specs.declared.fault.EventFault.TheVariants as faults
use Rattle.network_core.specs.declared.reply.Reply.{Reply}
use Rattle.network_core.specs.Value.{NetValue}
use Rattle.network_core.specs.Step.{extends as extends_in, has_room, with_beacon, Leads}
use Rattle.beacon_lines.specs.declared.arrivals.Arrival.{Arrival}
use Rattle.beacon_lines.specs.declared.event.BeaconEvent.TheVariants.{Originate, Extend}
use Rattle.beacon_lines.specs.declared.event.Effect.{Effect}
use Rattle.beacon_lines.specs.declared.search.Wanted.{Wanted}
use Rattle.beacon_lines.specs.declared.ways.WayOut.{WayOut}
use Rattle.beacon_lines.specs.Reach.{class_of}
use Rattle.beacon_lines.specs.inner.Events.{effect_of, has_passed}
use Rattle.beacon_lines.specs.inner.Search.{IsStep, Suits}
use Rattle.beacon_lines.specs.inner.Spreading.{Ends, Follows, SendsIf, is_at, wants}
use Rattle.beacon_lines.specs.inner.Ways.{IsWay}
use Rattle.beacon_lines.proofs.Bound.{IsBound, IsSent, begun_in, ended_in, begins_longer, extends, newest, old_longer, old_of_one, originates}
use Rattle.beacon_lines.proofs.Counting.{some_there}
use Rattle.beacon_lines.proofs.Leading.{is_open}
use Rattle.beacon_lines.proofs.Sending.{added, begun_effect, ended}
use Rattle.beacon_lines.proofs.Spreads.{AddsAt, IsDone, IsSpread, IsThere, arrived, nothing, same_step}

-- after a try the far end of the way is the origin, or an arrival is there, if more entries and any
-- segments are allowed, unless the network is full
pub record IsTried (n : Network) (now per_pair core_len : ℕ) (wanted : Wanted) (first : ℕ)
    (way : WayOut) (entries : ℕ) (old : NetValue) (before : List Arrival) (new : NetValue)
    (after : List Arrival) : Type 0 where
  pub step : IsStep wanted.kind first old new
  pub spread : IsSpread n now per_pair core_len wanted first new after
  pub adds : (after ≡ before) ⊎ AddsAt way.far (entries + 1) before after
  pub reached : has_room new.beacons ≡ true → entries < wanted.entries → 0 < wanted.per_pair
      → (way.far ≡ first) ⊎ (IsThere before way.far ⊎ AddsAt way.far (entries + 1) before after)

module _ (n : Network) (now per_pair core_len : ℕ) (wanted : Wanted) (first : ℕ) (way : WayOut)
    (entries : ℕ) (old : NetValue) (before : List Arrival) (new : NetValue)
    (after : List Arrival) where
  -- nothing was tried
  untried : (new ≡ old) × (after ≡ before) → IsSpread n now per_pair core_len wanted first old
      before
      → (entries < wanted.entries → 0 < wanted.per_pair → (way.far ≡ first) ⊎ IsThere before
      way.far)
      → IsTried n now per_pair core_len wanted first way entries old before new after
  untried same spread why = record {
    step = subst (IsStep wanted.kind first old) (sym same.0) (same_step wanted.kind first old);
    spread = subst (λ (m : NetValue). IsSpread n now per_pair core_len wanted first m after)
        (sym same.0)
        (subst (IsSpread n now per_pair core_len wanted first old) (sym same.1) spread);
    adds = inl same.1;
    reached = λ room long some. elim (why long some) [
      | inl origin ↦ inl origin
      | inr there ↦ inr (inl there)
    ];
  }

  -- the far end has as many as are wanted
  sated : (entries < wanted.entries → 0 < wanted.per_pair
      → nat_lt (count_by (is_at way.far) before) wanted.per_pair ≡ false
      → IsThere before way.far)
  sated long some full =
      let many = ltb-false _ _ full in
      let found = some_there before way.far (omega arith) in
      record { arrival = found.0; there = found.1.0; at = found.1.1 }

  tried : IsDone n now per_pair core_len wanted first way.far (entries + 1) old before new after
      → IsTried n now per_pair core_len wanted first way entries old before new after
  tried done = record {
    step = done.step;
    spread = done.spread;
    adds = done.adds;
    reached = λ room long some. inr (inr (done.arrives room));
  }

  -- a beacon was made, and ended if there was room for it
  made : (chain : Chain) (reply : Reply) (effect : Effect) (between : NetValue)
      → Suits per_pair core_len wanted → IsSpread n now per_pair core_len wanted first old before
      → IsSent n now wanted.kind first way chain → entries ≡ length chain.entries
      → entries < wanted.entries → count_by (is_at way.far) before < wanted.per_pair
      → ((ia : ℕ) → is_new chain ia ≡ false → (ia ≡ first) ⊎ IsThere before ia)
      → effect ≡ effect_of reply → Leads (with_beacon old chain) old reply between
      → Follows effect way (entries + 1) between before new after
      → IsDone n now per_pair core_len wanted first way.far (entries + 1) old before new after
  made chain reply effect between suits spread sent long short few passed says leads follows =
      elim (begun_effect old chain effect reply between says leads) [
        | inl begun ↦ (
            let arrival : Arrival = record {
              ia = way.far;
              beacon = length old.beacons;
              entries =
                  entries + 1;
            } in
            let ends : Ends arrival (added old chain) before new after =
            subst (λ m. Ends arrival m before new after) begun.is
            (subst (λ e. Follows e way (entries + 1) between before new after) begun.says
            follows) in
            let limit : (last : Entry) → last.ia ≡ way.far → count_by
            (is_alike (with_last chain last)) old.segments < 32 =
            λ last of. (
            let segment = with_last chain last in
            let counted = spread.counted segment sent.bound.kind_is
            (begun_in first segment (begins_longer first chain.entries last
            sent.bound.begins)) in
            let at : count_by (is_at (way.far)) before < wanted.per_pair = few in
            let there : count_by (is_alike segment) old.segments ≤ count_by (is_at way.far)
            before =
            subst (λ ia. count_by (is_alike segment) old.segments ≤ count_by (is_at ia) before)
            (ended_in chain last ∙ of) counted in
            let most = suits.stored in
            omega arith) in
            let done = ended n now wanted.kind first chain arrival (added old chain) before new
            after
            spread.network spread.moment sent.bound (newest old.beacons chain) limit ends in
            arrived n now per_pair core_len wanted first way.far (entries + 1) old before new after
            way
            chain arrival suits refl refl refl refl spread sent (ap (λ k. k + 1) long) (omega arith)
            few passed done)
        | inr full ↦ (
            let same : (new ≡ between) × (after ≡ before) =
            subst (λ e. Follows e way (entries + 1) between before new after) full.says follows in
            let new_is = same.0 ∙ full.is in
            nothing n now per_pair core_len wanted first way.far (entries + 1) old before new after
            new_is same.1 spread
            (λ room. true≢false (sym (ap (λ (m : NetValue). has_room m.beacons) (sym new_is) ∙ room)
            ∙ full.full)))
      ]

-- a core AS that is known is core
core_one : (n : Network) (ia : ℕ) → is_core n.ases ia ≡ true → (one : AsEntry)
    → as_named n.ases ia ≡ Some one → one.core ≡ true
core_one n ia core one named =
    sym (ap (λ (o : Option AsEntry). option_map_or (λ (a : AsEntry). a.core) o false) named) ∙ core

-- an origin begins a beacon by a way out, if it is wanted
pub begins_by : (n : Network) (now per_pair core_len : ℕ) (wanted : Wanted) (first : ℕ)
    (way : WayOut)
    (beta : ℕ) (old : NetValue) (before : List Arrival) (new : NetValue) (after : List Arrival)
    → IsNetwork n → is_core n.ases first ≡ true → Suits per_pair core_len wanted
    → IsWay n (class_of wanted.kind) way → way.near ≡ first
    → IsSpread n now per_pair core_len wanted first old before
    → SendsIf (wants wanted way 1 before) (Originate way.near way.egress beta) way 2 old before new
    after
    → IsTried n now per_pair core_len wanted first way 1 old before new after
begins_by n now per_pair core_len wanted first way beta old before new after network core suits is
    near spread sends =
    elim (cases_Bool (wants wanted way 1 before)) [
      | inl passes ↦ (
          let parts = and_parts (nat_lt 1 wanted.entries)
          (nat_lt (count_by (is_at way.far) before) wanted.per_pair) passes in
          let sent = sends.sent passes in
          let core_near : is_core n.ases way.near ≡ true = ap (is_core n.ases) near ∙ core in
          let call = originates n now beta wanted.kind way
          (is_open n (class_of wanted.kind) way network is)
          (core_one n way.near core_near) in
          let chain = call.0 in
          let entry = call.1 in
          let facts = call.2 in
          let done : originated_beacon old.network way.near way.egress old.moment beta ≡ Ok chain =
          ap (λ (m : Network). originated_beacon m way.near way.egress old.moment beta)
          spread.network
          ∙ (ap (λ t. originated_beacon n way.near way.egress t beta) spread.moment ∙ facts.0) in
          let leads : Leads (with_beacon old chain) old sent.happens.reply sent.between =
          subst (λ r. Leads (refused_as faults.Beacon r >>= with_beacon old) old sent.happens.reply
          sent.between)
          done sent.happens.step in
          let of_first = subst (λ ia. IsSent n now wanted.kind ia way chain) near facts.1.1.1 in
          let one_long : 1 ≡ length chain.entries = sym
          (ap (λ (c : Chain). length c.entries) facts.1.0) in
          tried n now per_pair core_len wanted first way 1 old before new after
          (made n now per_pair core_len wanted first way 1 old before new after chain
          sent.happens.reply
          sent.effect sent.between suits spread of_first one_long (ltb-true _ _ parts.0)
          (ltb-true _ _ parts.1)
          (λ ia passed. inl (sym (old_of_one wanted.kind now beta entry ia
          (sym (ap (λ c. is_new c ia) facts.1.0) ∙ passed)) ∙ (facts.1.1.0 ∙ near)))
          sent.happens.says leads sent.follows))
      | inr fails ↦ untried n now per_pair core_len wanted first way 1 old before new after
          (sends.unsent fails) spread
          (λ long some. elim (and_cases (nat_lt 1 wanted.entries)
          (nat_lt (count_by (is_at way.far) before) wanted.per_pair) fails) [
            | inl short ↦ absurd (let few = ltb-false _ _ short in omega arith)
            | inr full ↦ inr (sated n now per_pair core_len wanted first way 1 old before new after
                long some full)
          ])
    ]

twice : (test : Bool) → test ≡ not (not test)
twice true = refl
twice false = refl

-- whether a beacon that is there has passed an AS
passed_of : (old : NetValue) (beacon ia : ℕ) (chain : Chain) → slice_get old.beacons beacon ≡ Some
    chain
    → has_passed old beacon ia ≡ not (is_new chain ia)
unfolding is_new
passed_of old beacon ia chain here = rw here
    (twice (list_any (λ (entry : Entry). eqb entry.ia ia) chain.entries))

-- a step that passes on a beacon that is there adds what the call gives
led_on : (old : NetValue) (beacon ia egress : ℕ) (chain next : Chain) (reply : Reply)
    (between : NetValue)
    → slice_get old.beacons beacon ≡ Some chain → extended_beacon old.network chain ia egress ≡ Ok
    next
    → Leads (extends_in old beacon ia egress) old reply between
    → Leads (with_beacon old next) old reply between
led_on old beacon ia egress chain next reply between here call leads =
    subst (λ r. Leads (r >>= with_beacon old) old reply between)
    (ap (λ (o : Option Chain). ok_or o faults.NoBeacon >>= λ from. refused_as faults.Beacon
    (extended_beacon old.network from ia egress)) here
    ∙ ap (refused_as faults.Beacon) call) leads

-- an AS passes a beacon on by a way out, if it is wanted and has not passed the far end
pub passes_by : (n : Network) (now per_pair core_len : ℕ) (wanted : Wanted) (first : ℕ)
    (way : WayOut)
    (from : Arrival) (old : NetValue) (before : List Arrival) (new : NetValue)
    (after : List Arrival)
    → IsNetwork n → Suits per_pair core_len wanted
    → IsWay n (class_of wanted.kind) way → way.near ≡ from.ia → Contains before from
    → IsSpread n now per_pair core_len wanted first old before
    → SendsIf (wants wanted way from.entries before && not (has_passed old from.beacon way.far))
    (Extend from.beacon way.near way.egress) way (from.entries + 1) old before new after
    → IsTried n now per_pair core_len wanted first way from.entries old before new after
passes_by n now per_pair core_len wanted first way from old before new after network suits is near
    there spread sends =
    let arrival = spread.each from there in
    let chain = arrival.chain in
    let passed_is : has_passed old from.beacon way.far ≡ not (is_new chain way.far) = passed_of old
    from.beacon way.far chain arrival.there in
    elim (cases_Bool (wants wanted way from.entries before && not
    (has_passed old from.beacon way.far))) [
      | inl passes ↦ (
          let both = and_parts (wants wanted way from.entries before)
          (not (has_passed old from.beacon way.far)) passes in
          let parts = and_parts (nat_lt from.entries wanted.entries)
          (nat_lt (count_by (is_at way.far) before) wanted.per_pair) both.0 in
          let sent = sends.sent passes in
          let new_far : is_new chain way.far ≡ true = not-false _
          (sym passed_is ∙ not-true _ both.1) in
          let below = ltb-true _ _ parts.0 in
          let bound = subst (λ ia. IsBound n now wanted.kind first ia chain) (sym near)
          arrival.bound in
          let short : length chain.entries < 62 =
          (let long = arrival.long in let most = suits.long in omega arith) in
          let call = extends n now wanted.kind first way chain
          (is_open n (class_of wanted.kind) way network is) bound short new_far in
          let last = call.0 in
          let next = with_last chain last in
          let facts = call.1 in
          let done : extended_beacon old.network chain way.near way.egress ≡ Ok next =
          ap (λ (m : Network). extended_beacon m chain way.near way.egress) spread.network
          ∙ facts.1.0 in
          let leads : Leads (with_beacon old next) old sent.happens.reply sent.between =
          led_on old from.beacon way.near way.egress chain next sent.happens.reply sent.between
          arrival.there done sent.happens.step in
          let longer : from.entries ≡ length next.entries = arrival.long ∙ sym
          (length_push chain.entries last) in
          tried n now per_pair core_len wanted first way from.entries old before new after
          (made n now per_pair core_len wanted first way from.entries old before new after next
          sent.happens.reply
          sent.effect sent.between suits spread facts.1.1 longer below (ltb-true _ _ parts.1)
          (λ ia passed. elim (old_longer chain last ia passed) [
            | inl earlier ↦ arrival.passed ia earlier
            | inr here ↦ inr (record {
              arrival = from;
              there = there;
              at = sym near
                  ∙ (sym facts.0 ∙ here);
            })
          ])
          sent.happens.says leads sent.follows))
      | inr fails ↦ untried n now per_pair core_len wanted first way from.entries old before new
          after (sends.unsent fails) spread
          (λ long some. elim (and_cases (wants wanted way from.entries before)
          (not (has_passed old from.beacon way.far)) fails) [
            | inl unwanted ↦ elim (and_cases (nat_lt from.entries wanted.entries)
                (nat_lt (count_by (is_at way.far) before) wanted.per_pair) unwanted) [
                  | inl short ↦ absurd (let few = ltb-false _ _ short in omega arith)
                  | inr full ↦ inr (sated n now per_pair core_len wanted first way from.entries old
                      before new after long some full)
                ]
            | inr passed ↦ arrival.passed way.far (not-true _ (sym passed_is ∙ not-false _ passed))
          ])
    ]
