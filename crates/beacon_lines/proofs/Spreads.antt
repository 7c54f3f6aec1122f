-- Where the beacons of one origin are after any number of them were sent.
use Rattle.std.proofs.Common.{◌≡◌, ◌⊎◌, ◌+◌, ◌≤◌, ◌<◌, ℕ, true, false, cond, eqb, List, [], ◌∷◌, ◌++◌, length, Contains, count_by, Some, refl, sym, ap, ◌∙◌, subst, inl, inr, arith}
use Rattle.std.specs.Prelude.{slice_get}
use Rattle.std.proofs.lemmas.Bool.{cases_Bool, eqb-true, eq-eqb}
use Rattle.std.proofs.lemmas.List.{length_push}
use Rattle.std.proofs.lemmas.List.Elements.{Contains-append_left, Contains-push_cases}
use Rattle.scion_topology.specs.Network.{Network}
use Rattle.path_segment.specs.Chain.{Chain, with_last, first_as, last_as}
use Rattle.path_segment.specs.declared.entry.Entry.{Entry}
use Rattle.path_segment.specs.declared.kind.SegKind.{SegKind}
use Rattle.path_segment.specs.declared.kind.SegKind.TheVariants.{Core}
use Rattle.path_server.specs.Segment.{is_alike}
use Rattle.path_server.specs.Store.{with_registered}
use Rattle.path_server.proofs.Plain.{Contains-registered_kept, Contains-registered_added}
use Rattle.beaconing.specs.Calls.{is_new}
use Rattle.network_core.specs.Value.{NetValue}
use Rattle.network_core.specs.Step.{has_room}
use Rattle.beacon_lines.specs.declared.arrivals.Arrival.{Arrival}
use Rattle.beacon_lines.specs.declared.search.Wanted.{Wanted}
use Rattle.beacon_lines.specs.declared.ways.WayOut.{WayOut}
use Rattle.beacon_lines.specs.inner.Growth.{Grows}
use Rattle.beacon_lines.specs.inner.Search.{AreRight, IsStep, Suits}
use Rattle.beacon_lines.specs.inner.Spreading.{is_at}
use Rattle.beacon_lines.proofs.Bound.{IsBound, IsSent, begun_in, begins_longer, ended_in, newest}
use Rattle.beacon_lines.proofs.Counting.{alike, registered_count, registered_same, arrived_count, no_counts, yes_counts}
use Rattle.beacon_lines.proofs.Growing.{room_before, still_there}
use Rattle.beacon_lines.proofs.Sending.{IsEnded, added, ended}

-- ---- one origin

-- one of the arrivals is in this AS
pub record IsThere (arrivals : List Arrival) (ia : ℕ) : Type 0 where
  pub arrival : Arrival
  pub there : Contains arrivals arrival
  pub at : arrival.ia ≡ ia

-- the beacon of an arrival was made from the origin on; its segment is stored; each AS that it
-- passed is the origin, or an arrival is there
pub record IsArrival (n : Network) (now : ℕ) (kind : SegKind) (first : ℕ) (net : NetValue)
    (arrivals : List Arrival) (arrival : Arrival) : Type 0 where
  pub chain : Chain
  pub there : slice_get net.beacons arrival.beacon ≡ Some chain
  pub bound : IsBound n now kind first arrival.ia chain
  pub long : arrival.entries ≡ length chain.entries + 1
  pub last : Entry
  pub of : last.ia ≡ arrival.ia
  pub stored : Contains net.segments (with_last chain last)
  pub passed : (ia : ℕ) → is_new chain ia ≡ false → (ia ≡ first) ⊎ IsThere arrivals ia

pub there_still : (arrivals : List Arrival) (arrival : Arrival) (ia : ℕ) → IsThere arrivals ia
    → IsThere (arrivals ++ arrival ∷ []) ia
there_still arrivals arrival ia is = record {
  arrival = is.arrival;
  there = Contains-append_left arrivals (arrival ∷ []) is.arrival is.there;
  at = is.at;
}

-- the state of the beacons of one origin over links of one kind
pub record IsSpread (n : Network) (now per_pair core_len : ℕ) (wanted : Wanted) (first : ℕ)
    (net : NetValue) (arrivals : List Arrival) : Type 0 where
  pub network : net.network ≡ n
  pub moment : net.moment ≡ now
  pub each : (arrival : Arrival) → Contains arrivals arrival
      → IsArrival n now wanted.kind first net arrivals arrival
  pub counted : (segment : Chain) → segment.kind ≡ wanted.kind → first_as segment ≡ first
      → count_by (is_alike segment) net.segments ≤ count_by (is_at (last_as segment)) arrivals
  pub capped : (ia : ℕ) → count_by (is_at ia) arrivals ≤ wanted.per_pair
  pub right : AreRight per_pair core_len now net.segments

-- ---- one beacon more

-- the arrivals after a beacon was sent: at most one more, at the far end
pub record AddsAt (far entries : ℕ) (before after : List Arrival) : Type 0 where
  pub arrival : Arrival
  pub at : arrival.ia ≡ far
  pub long : arrival.entries ≡ entries
  pub is : after ≡ before ++ arrival ∷ []

-- what a beacon that is sent by a way does
pub record IsDone (n : Network) (now per_pair core_len : ℕ) (wanted : Wanted)
    (first far entries : ℕ)
    (old : NetValue) (before : List Arrival) (new : NetValue) (after : List Arrival) : Type 0 where
  pub step : IsStep wanted.kind first old new
  pub spread : IsSpread n now per_pair core_len wanted first new after
  pub adds : (after ≡ before) ⊎ AddsAt far entries before after
  pub arrives : has_room new.beacons ≡ true → AddsAt far entries before after

pub same_step : (kind : SegKind) (first : ℕ) (net : NetValue) → IsStep kind first net net
same_step kind first net = record {
  grows = record {
    network = refl;
    moment = refl;
    beacons = λ number chain there. there;
    segments = λ segment there. there;
    room = λ room. room;
  };
  others = λ segment other. refl;
}

pub then_step : (kind : SegKind) (first : ℕ) (old between new : NetValue) → IsStep kind first old
    between
    → IsStep kind first between new → IsStep kind first old new
then_step kind first old between new one two = record {
  grows = record {
    network = two.grows.network ∙ one.grows.network;
    moment = two.grows.moment ∙ one.grows.moment;
    beacons = λ number chain there. two.grows.beacons number chain
        (one.grows.beacons number chain there);
    segments = λ segment there. two.grows.segments segment (one.grows.segments segment there);
    room = λ room. one.grows.room (two.grows.room room);
  };
  others = λ segment other. two.others segment other ∙ one.others segment other;
}

-- an arrival stays one
arrival_stays : (n : Network) (now : ℕ) (kind : SegKind) (first : ℕ) (old new : NetValue)
    (before : List Arrival) (added arrival : Arrival) → Grows old new
    → IsArrival n now kind first old before arrival
    → IsArrival n now kind first new (before ++ added ∷ []) arrival
arrival_stays n now kind first old new before added arrival grows is = record {
  chain = is.chain;
  there = grows.beacons arrival.beacon is.chain is.there;
  bound = is.bound;
  long = is.long;
  last = is.last;
  of = is.of;
  stored = grows.segments (with_last is.chain is.last) is.stored;
  passed = λ ia old. elim (is.passed ia old) [
    | inl origin ↦ inl origin
    | inr there ↦ inr (there_still before added ia there)
  ];
}

module _ (n : Network) (now per_pair core_len : ℕ) (wanted : Wanted) (first far entries : ℕ)
    (old : NetValue) (before : List Arrival) (new : NetValue) (after : List Arrival) where
  pub nothing : new ≡ old → after ≡ before → IsSpread n now per_pair core_len wanted first old
      before
      → (has_room new.beacons ≡ true → ⊥)
      → IsDone n now per_pair core_len wanted first far entries old before new after
  nothing new_is after_is spread none = record {
    step = subst (IsStep wanted.kind first old) (sym new_is) (same_step wanted.kind first old);
    spread = subst (λ (m : NetValue). IsSpread n now per_pair core_len wanted first m after)
        (sym new_is)
        (subst (IsSpread n now per_pair core_len wanted first old) (sym after_is) spread);
    adds = inl after_is;
    arrives = λ room. absurd (none room);
  }

  -- the beacon was begun or passed on, and ended at the far end
  pub arrived : (way : WayOut) (chain : Chain) (arrival : Arrival) → Suits per_pair core_len wanted
      → far ≡ way.far → arrival.ia ≡ far → arrival.entries ≡ entries
      → arrival.beacon ≡ length old.beacons
      → IsSpread n now per_pair core_len wanted first old before
      → IsSent n now wanted.kind first way chain → entries ≡ length chain.entries + 1
      → entries ≤ wanted.entries → count_by (is_at far) before < wanted.per_pair
      → ((ia : ℕ) → is_new chain ia ≡ false → (ia ≡ first) ⊎ IsThere before ia)
      → IsEnded n chain arrival (added old chain) before new after
      → IsDone n now per_pair core_len wanted first far entries old before new after
  arrived way chain arrival suits far_is at long numbered spread sent entries_is short few passed
      ended =
      let segment = with_last chain ended.last in
      let bound = subst (λ ia. IsBound n now wanted.kind first ia chain) (sym (at ∙ far_is))
      sent.bound in
      let first_is : first_as segment ≡ first = begun_in first segment
      (begins_longer first chain.entries ended.last bound.begins) in
      let last_is : last_as segment ≡ far = ended_in chain ended.last ∙ (ended.of ∙ at) in
      let new_segments : new.segments ≡ with_registered old.segments segment old.moment = ap
      (λ (m : NetValue). m.segments) ended.is in
      let new_beacons : new.beacons ≡ old.beacons ++ chain ∷ [] = ap (λ (m : NetValue). m.beacons)
      ended.is in
      let grows : Grows old new = record {
        network = ap (λ (m : NetValue). m.network) ended.is;
        moment = ap (λ (m : NetValue). m.moment) ended.is;
        beacons = λ number other there. ap (λ bs. slice_get bs number) new_beacons ∙ still_there
            old.beacons (chain ∷ []) number other there;
        segments = λ other there. subst (λ ss. Contains ss other) (sym new_segments)
            (Contains-registered_kept old.segments segment old.moment other there);
        room = λ room. room_before old.beacons chain (sym (ap has_room new_beacons) ∙ room);
      } in
      let counts : (other : Chain) → count_by (is_alike other) new.segments ≤ count_by
      (is_alike other) old.segments + cond (is_alike other segment) 1 0 =
      λ other. subst (λ ss. count_by (is_alike other) ss ≤ count_by (is_alike other) old.segments
      + cond (is_alike other segment) 1 0) (sym new_segments)
      (registered_count old.segments segment old.moment other) in
      let same : (other : Chain) → is_alike other segment ≡ false → count_by (is_alike other)
      new.segments ≡ count_by (is_alike other) old.segments =
      λ other unlike. ap (count_by (is_alike other)) new_segments ∙ registered_same old.segments
      segment old.moment other unlike in
      let arrivals : (ia : ℕ) → count_by (is_at ia) after ≡ count_by (is_at ia) before + cond
      (is_at ia arrival) 1 0 =
      λ ia. ap (count_by (is_at ia)) ended.arrives ∙ arrived_count before arrival ia in
      let owned : (other : Chain) → is_alike other segment ≡ true
      → (other.kind ≡ wanted.kind) × (first_as other ≡ first) =
      λ other like. (let parts = alike other segment like in
      (parts.0 ∙ bound.kind_is, parts.1.0 ∙ first_is)) in
      let counted : (other : Chain) → other.kind ≡ wanted.kind → first_as other ≡ first → count_by
      (is_alike other) new.segments ≤ count_by (is_at (last_as other)) after =
      λ other kind_is begins. (
      let was = spread.counted other kind_is begins in
      let now_there = arrivals (last_as other) in
      elim (cases_Bool (is_alike other segment)) [
        | inl like ↦ (
            let more = counts other in
            let ends : last_as other ≡ far = (alike other segment like).1.1 ∙ last_is in
            let here : is_at (last_as other) arrival ≡ true = eq-eqb _ _ (at ∙ sym ends) in
            let one_more = yes_counts (is_alike other segment) like in
            let one_here = yes_counts (is_at (last_as other) arrival) here in
            omega arith)
        | inr unlike ↦ (let as_before = same other unlike in omega arith)
      ]) in
      let capped : (ia : ℕ) → count_by (is_at ia) after ≤ wanted.per_pair =
      λ ia. (
      let now_there = arrivals ia in
      let was = spread.capped ia in
      elim (cases_Bool (eqb arrival.ia ia)) [
        | inl here ↦ (
            let is : far ≡ ia = sym at ∙ eqb-true arrival.ia ia here in
            let room : count_by (is_at ia) before < wanted.per_pair = subst
            (λ x. count_by (is_at x) before < wanted.per_pair) is few in
            let one_here = yes_counts (is_at ia arrival) here in
            omega arith)
        | inr other ↦ (let none_here = no_counts (is_at ia arrival) other in omega arith)
      ]) in
      let length_is : length segment.entries ≡ entries = length_push chain.entries ended.last ∙ sym
      entries_is in
      let added_or_old : (other : Chain) → Contains new.segments other → Contains old.segments other
      ⊎ (segment ≡ other) =
      λ other there. Contains-registered_added old.segments segment old.moment other
      (subst (λ ss. Contains ss other) new_segments there) in
      let adds : AddsAt far entries before after = record
      { arrival = arrival; at = at; long = long; is = ended.arrives } in
      record {
        step = record {
          grows = grows;
          others = λ other strange. elim (cases_Bool (is_alike other segment)) [
            | inl like ↦ absurd (strange (owned other like))
            | inr unlike ↦ same other unlike
          ];
        };
        spread = record {
          network = grows.network ∙ spread.network;
          moment = grows.moment ∙ spread.moment;
          each = λ one there. elim (Contains-push_cases before arrival one
              (subst (λ list. Contains list one) ended.arrives there)) [
                | inl earlier ↦ subst (λ list. IsArrival n now wanted.kind first new list one)
                    (sym ended.arrives)
                    (arrival_stays n now wanted.kind first old new before arrival one grows
                    (spread.each one earlier))
                | inr last ↦ subst (IsArrival n now wanted.kind first new after) last (record {
                  chain = chain;
                  there = ap (λ bs. slice_get bs arrival.beacon) new_beacons
                      ∙ (ap (slice_get (old.beacons ++ chain ∷ [])) numbered ∙ newest old.beacons
                      chain);
                  bound = bound;
                  long = long ∙ entries_is;
                  last = ended.last;
                  of = ended.of;
                  stored = ended.stored;
                  passed = λ ia old_as. elim (passed ia old_as) [
                    | inl origin ↦ inl origin
                    | inr earlier ↦ inr (subst (λ list. IsThere list ia) (sym ended.arrives)
                        (there_still before arrival ia earlier))
                  ];
                })
              ];
          counted = counted;
          capped = capped;
          right = record {
            few = λ other. elim (cases_Bool (is_alike other segment)) [
              | inl like ↦ (
                  let own = owned other like in
                  let bounded = counted other own.0 own.1 in
                  let cap = capped (last_as other) in
                  let within = suits.few in
                  omega arith)
              | inr unlike ↦ (let as_before = same other unlike in let was = spread.right.few
                  other in omega arith)
            ];
            short = λ other there core. elim (added_or_old other there) [
              | inl earlier ↦ spread.right.short other earlier core
              | inr is ↦ (
                  let core_is : wanted.kind ≡ Core = sym bound.kind_is
                  ∙ (ap (λ (c : Chain). c.kind) is ∙ core) in
                  let within = suits.short core_is in
                  let same_length : length segment.entries ≡ length other.entries = ap
                  (λ (c : Chain). length c.entries) is in
                  omega arith)
            ];
            begun = λ other there. elim (added_or_old other there) [
              | inl earlier ↦ spread.right.begun other earlier
              | inr is ↦ sym (ap (λ (c : Chain). c.timestamp) is) ∙ bound.begun
            ];
          };
        };
        adds = inr adds;
        arrives = λ room. adds;
      }
