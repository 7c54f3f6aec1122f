-- The search from one origin: which ways were tried, and which ASes are reached when all were.
use Rattle.std.proofs.Common.{◌≡◌, ◌⊎◌, ◌+◌, ◌≤◌, ◌<◌, ℕ, zero, suc, true, not, ◌&&◌, List, [], ◌∷◌, ◌++◌, length, get_or, take, Contains, Some, None, refl, sym, ap, ◌∙◌, subst, inl, inr, arith}
use Rattle.std.specs.Prelude.{slice_get}
use Rattle.std.proofs.lemmas.Bool.{cases_lt}
use Rattle.std.proofs.lemmas.Option.{slice_get-get_or, slice_get_within}
use Rattle.std.proofs.lemmas.List.{length_push, take_all, take_more}
use Rattle.std.proofs.lemmas.List.Elements.{All-contains, Contains-push, Contains-push_cases}
use Rattle.scion_topology.specs.declared.network.Link.{Link}
use Rattle.scion_topology.specs.declared.network.LinkClass.{LinkClass}
use Rattle.scion_topology.specs.declared.network.LinkClass.TheVariants as classes
use Rattle.scion_topology.specs.Network.{Network}
use Rattle.path_segment.specs.Chain.{with_last}
use Rattle.network_core.specs.Value.{NetValue}
use Rattle.network_core.specs.Step.{has_room}
use Rattle.beacon_lines.specs.declared.arrivals.Arrival.{Arrival}
use Rattle.beacon_lines.specs.declared.search.Wanted.{Wanted}
use Rattle.beacon_lines.specs.declared.ways.WayOut.{WayOut}
use Rattle.beacon_lines.specs.Reach.{HasSegments, IsReached, LeadsTo, class_of}
use Rattle.beacon_lines.specs.declared.event.BeaconEvent.TheVariants.{Originate, Extend}
use Rattle.beacon_lines.specs.inner.Events.{has_passed}
use Rattle.beacon_lines.specs.inner.Search.{IsReady, IsServed, IsStep, Serves}
use Rattle.beacon_lines.specs.inner.Spreading.{SendsIf, wants}
use Rattle.beacon_lines.specs.inner.Ways.{AreWays, AreWaysFrom, IsWay, way_between}
use Rattle.beacon_lines.proofs.Arriving.{Adds, AreBelow, AreRising, HasOne, in_place, place_was, rising_still, same_place, still_in, still_one, was_or_new}
use Rattle.beacon_lines.proofs.Bound.{begins_longer, begun_in, ended_in}
use Rattle.beacon_lines.proofs.Leading.{way_from_a, way_from_b}
use Rattle.beacon_lines.proofs.Spreads.{IsSpread, same_step, then_step}
use Rattle.beacon_lines.proofs.Trying.{IsTried, begins_by, passes_by}

-- ---- what was tried

module _ (n : Network) (now per_pair core_len : ℕ) (wanted : Wanted) (first : ℕ)
    (start : NetValue) where
  -- from an AS with arrivals of so many entries this way was tried
  abbrev IsPassed : (net : NetValue) (arrivals : List Arrival) (entries far : ℕ) → Type 0
  IsPassed net arrivals entries far = has_room net.beacons ≡ true → entries < wanted.entries
      → 0 < wanted.per_pair → (far ≡ first) ⊎ HasOne arrivals far (entries + 1)

  -- the origin has tried these ways
  pub record IsBeginning (net : NetValue) (arrivals : List Arrival) (tried : List WayOut) : Type
      0 where
    pub step : IsStep wanted.kind first start net
    pub spread : IsSpread n now per_pair core_len wanted first net arrivals
    pub twos : (one : Arrival) → Contains arrivals one → one.entries ≡ 2
    pub tried_all : (way : WayOut) → Contains tried way → IsPassed net arrivals 1 way.far

  -- the ways of the origin and of the arrivals before this number were tried
  pub record IsExploring (net : NetValue) (arrivals : List Arrival) (number : ℕ) : Type 0 where
    pub step : IsStep wanted.kind first start net
    pub spread : IsSpread n now per_pair core_len wanted first net arrivals
    pub rising : AreRising arrivals
    pub near : (one : Arrival) → slice_get arrivals number ≡ Some one → AreBelow (one.entries + 1)
        arrivals
    pub begun : (way : WayOut) → IsWay n (class_of wanted.kind) way → way.near ≡ first
        → IsPassed net arrivals 1 way.far
    pub tried : (k : ℕ) (one : Arrival) (way : WayOut) → k < number → slice_get arrivals k ≡ Some
        one
        → IsWay n (class_of wanted.kind) way → way.near ≡ one.ia → IsPassed net arrivals one.entries
        way.far

  -- besides, these ways of the arrival of this number
  pub record IsPassing (net : NetValue) (arrivals : List Arrival) (number : ℕ) (from : Arrival)
      (tried : List WayOut) : Type 0 where
    pub exploring : IsExploring net arrivals number
    pub at : slice_get arrivals number ≡ Some from
    pub tried_all : (way : WayOut) → Contains tried way → IsPassed net arrivals from.entries way.far

  -- what was tried stays so
  still_passed : (far entries : ℕ) (old new : NetValue) (before after : List Arrival) (from to : ℕ)
      → IsStep wanted.kind first old new → Adds far entries before after
      → IsPassed old before from to → IsPassed new after from to
  still_passed far entries old new before after from to step adds passed room long some =
      elim (passed (step.grows.room room) long some) [
        | inl origin ↦ inl origin
        | inr one ↦ inr (still_one far entries before after to (from + 1) adds one)
      ]

  -- one way more was tried, where no arrival has more entries than the new one
  now_passed : (way : WayOut) (entries : ℕ) (old new : NetValue) (before after : List Arrival)
      → AreBelow (entries + 1) before
      → IsTried n now per_pair core_len wanted first way entries old before new after
      → IsPassed new after entries way.far
  now_passed way entries old new before after below is room long some =
      elim (is.reached room long some) [
        | inl origin ↦ inl origin
        | inr (inl there) ↦ inr (record {
          arrival = there.arrival;
          there = still_in way.far (entries + 1) before after there.arrival is.adds there.there;
          at = there.at;
          few = below there.arrival there.there;
        })
        | inr (inr adds) ↦ inr (record {
          arrival = adds.arrival;
          there = subst (λ list. Contains list adds.arrival) (sym adds.is)
              (Contains-push before adds.arrival);
          at = adds.at;
          few = (let long = adds.long in omega arith);
        })
      ]

  pub begin_next : (way : WayOut) (old new : NetValue) (before after : List Arrival)
      (tried : List WayOut)
      → IsBeginning old before tried
      → IsTried n now per_pair core_len wanted first way 1 old before new after
      → IsBeginning new after (tried ++ way ∷ [])
  begin_next way old new before after tried is try = record {
    step = then_step wanted.kind first start old new is.step try.step;
    spread = try.spread;
    twos = λ one there. elim (was_or_new way.far 2 before after one try.adds there) [
      | inl was ↦ is.twos one was
      | inr long ↦ long
    ];
    tried_all = λ other there. elim (Contains-push_cases tried way other there) [
      | inl earlier ↦ still_passed way.far 2 old new before after 1 other.far try.step try.adds
          (is.tried_all other earlier)
      | inr same ↦ subst (λ (w : WayOut). IsPassed new after 1 w.far) same
          (now_passed way 1 old new before after
          (λ one was. (let two = is.twos one was in omega arith)) try)
    ];
  }

  pub begin_done : (net : NetValue) (arrivals : List Arrival) (ways : List WayOut)
      → AreWaysFrom n (class_of wanted.kind) first ways → IsBeginning net arrivals ways
      → IsExploring net arrivals 0
  begin_done net arrivals ways all is = record {
    step = is.step;
    spread = is.spread;
    rising = λ i j one other order at_i at_j. (
        let one_two = is.twos one (in_place arrivals i one at_i) in
        let other_two = is.twos other (in_place arrivals j other at_j) in
        omega arith);
    near = λ one at other there. (
        let one_two = is.twos one (in_place arrivals 0 one at) in
        let other_two = is.twos other there in
        omega arith);
    begun = λ way way_is near. is.tried_all way (all.all way way_is near);
    tried = λ k one way below. absurd (omega arith);
  }

  pub pass_first : (net : NetValue) (arrivals : List Arrival) (number : ℕ) (from : Arrival)
      → IsExploring net arrivals number → slice_get arrivals number ≡ Some from
      → IsPassing net arrivals number from []
  pass_first net arrivals number from is at = record {
    exploring = is;
    at = at;
    tried_all = λ way there. absurd (let below = there.1 in omega arith);
  }

  pub pass_next : (way : WayOut) (old new : NetValue) (before after : List Arrival) (number : ℕ)
      (from : Arrival) (tried : List WayOut) → IsPassing old before number from tried
      → IsTried n now per_pair core_len wanted first way from.entries old before new after
      → IsPassing new after number from (tried ++ way ∷ [])
  pass_next way old new before after number from tried is try =
      let exploring = is.exploring in
      let entries = from.entries + 1 in
      let below : AreBelow entries before = exploring.near from is.at in
      let at_now = same_place way.far entries before after number from try.adds is.at in
      let within = slice_get_within before number from is.at in
      record {
        exploring = record {
          step = then_step wanted.kind first start old new exploring.step try.step;
          spread = try.spread;
          rising = rising_still way.far entries before after try.adds exploring.rising below;
          near = λ one at other there. (
              let same : from ≡ one = (let both : Some from ≡ Some one = sym at_now ∙ at in cc) in
              let same_entries = ap (λ (a : Arrival). a.entries) same in
              elim (was_or_new way.far entries before after other try.adds there) [
                | inl was ↦ (let few = below other was in omega arith)
                | inr long ↦ omega arith
              ]);
          begun = λ other other_is near. still_passed way.far entries old new before after 1
              other.far
              try.step try.adds (exploring.begun other other_is near);
          tried = λ k one other lower at other_is near.
              elim (place_was way.far entries before after k one try.adds at) [
                | inl was ↦ still_passed way.far entries old new before after one.entries other.far
                    try.step try.adds
                    (exploring.tried k one other lower was other_is near)
                | inr past ↦ absurd (let beyond = past.1 in omega arith)
              ];
        };
        at = at_now;
        tried_all = λ other there. elim (Contains-push_cases tried way other there) [
          | inl earlier ↦ still_passed way.far entries old new before after from.entries other.far
              try.step try.adds (is.tried_all other earlier)
          | inr same ↦ subst (λ (w : WayOut). IsPassed new after from.entries w.far) same
              (now_passed way from.entries old new before after below try)
        ];
      }

  pub pass_done : (net : NetValue) (arrivals : List Arrival) (number : ℕ) (from : Arrival)
      (ways : List WayOut) → AreWaysFrom n (class_of wanted.kind) from.ia ways
      → IsPassing net arrivals number from ways → IsExploring net arrivals (number + 1)
  pass_done net arrivals number from ways all is =
      let exploring = is.exploring in
      record {
        step = exploring.step;
        spread = exploring.spread;
        rising = exploring.rising;
        near = λ one at other there. (
            let order = exploring.rising number (number + 1) from one (omega arith) is.at at in
            let few = exploring.near from is.at other there in
            omega arith);
        begun = exploring.begun;
        tried = λ k one way below at way_is near. elim (cases_lt k number) [
          | inl lower ↦ exploring.tried k one way lower at way_is near
          | inr above ↦ (
              let here : k ≡ number = omega arith in
              let same : one ≡ from = (
              let both : Some one ≡ Some from = sym at
              ∙ (ap (slice_get arrivals) here ∙ is.at) in cc) in
              subst (λ (a : Arrival). IsPassed net arrivals a.entries way.far) (sym same)
              (is.tried_all way (all.all way way_is (near ∙ ap (λ (a : Arrival). a.ia) same))))
        ];
      }

  -- ---- all that is reached

  -- where a link leads, a way does
  way_there : (from to : ℕ) (link : Link) (class : LinkClass) → Contains n.links link → LeadsTo
      class from to link
      → (way : WayOut) × (IsWay n class way × ((way.near ≡ from) × (way.far ≡ to)))
  way_there from to link classes.Core listed (class_is, (up, inl ends)) =
      (way_between link.a link.b, (way_from_a n classes.Core link listed class_is up, ends))
  way_there from to link classes.Core listed (class_is, (up, inr ends)) =
      (way_between link.b link.a, (way_from_b n link listed class_is up, ends))
  way_there from to link classes.Child listed (class_is, (up, ends)) =
      (way_between link.a link.b, (way_from_a n classes.Child link listed class_is up, ends))

  reaches : (net : NetValue) (arrivals : List Arrival) (number : ℕ) → IsExploring net arrivals
      number
      → length arrivals ≤ number → has_room net.beacons ≡ true → 0 < wanted.per_pair
      → (links last : ℕ) → links < wanted.entries → IsReached n (class_of wanted.kind) first links
      last
      → (last ≡ first) ⊎ HasOne arrivals last (links + 1)
  reaches net arrivals number is all room some zero last few walk = inl (sym walk)
  reaches net arrivals number is all room some (suc links) last few walk =
      let middle = walk.0 in
      let found = walk.1.1 in
      let link = found.1 in
      let listed : Contains n.links link = (found.0, found.2, found.3) in
      let way = way_there middle last link (class_of wanted.kind) listed found.4 in
      let near = way.1.1.0 in
      let far = way.1.1.1 in
      elim (reaches net arrivals number is all room some links middle (omega arith) walk.1.0) [
        | inl origin ↦ elim (is.begun way.0 way.1.0 (near ∙ origin) room (omega arith) some) [
          | inl back ↦ inl (sym far ∙ back)
          | inr one ↦ inr (record {
            arrival = one.arrival;
            there = one.there;
            at = one.at ∙ far;
            few = (let short = one.few in omega arith);
          })
        ]
        | inr earlier ↦ (
            let k = earlier.there.0 in
            let within = earlier.there.1 in
            let at : slice_get arrivals k ≡ Some earlier.arrival =
            slice_get-get_or arrivals k earlier.arrival within ∙ ap Some earlier.there.2 in
            let short = earlier.few in
            elim (is.tried k earlier.arrival way.0 (omega arith) at way.1.0 (near ∙ sym earlier.at)
            room (omega arith) some) [
              | inl back ↦ inl (sym far ∙ back)
              | inr one ↦ inr (record {
                arrival = one.arrival;
                there = one.there;
                at = one.at ∙ far;
                few = (let fewer = one.few in omega arith);
              })
            ])
      ]

  complete : (net : NetValue) (arrivals : List Arrival) (number : ℕ) → IsExploring net arrivals
      number
      → length arrivals ≤ number → 0 < wanted.per_pair → has_room net.beacons ≡ true
      → HasSegments n wanted.kind first now wanted.entries net.segments
  complete net arrivals number is all some room links last few walk other =
      elim (reaches net arrivals number is all room some links last few walk) [
        | inl origin ↦ absurd (other origin)
        | inr one ↦ (
            let arrival = is.spread.each one.arrival one.there in
            let segment = with_last arrival.chain arrival.last in
            let there = arrival.stored in (
              there.0,
              segment,
              there.1,
              there.2,
              record {
                kind_is = arrival.bound.kind_is;
                begins = begun_in first segment
                    (begins_longer first arrival.chain.entries arrival.last arrival.bound.begins);
                ends = ended_in arrival.chain arrival.last ∙ (arrival.of ∙ one.at);
                begun = arrival.bound.begun;
                few = (
                    let longer = length_push arrival.chain.entries arrival.last in
                    let long = arrival.long in
                    let short = one.few in
                    omega arith);
              },
            ))
      ]

-- ---- the whole search

pub ready_first : (per_pair core_len : ℕ) (wanted : Wanted) (first : ℕ) (ways : List WayOut)
    (net : NetValue)
    → IsReady per_pair core_len wanted first ways net
    → IsBeginning net.network net.moment per_pair core_len wanted first net net [] []
ready_first per_pair core_len wanted first ways net ready = record {
  step = same_step wanted.kind first net;
  spread = record {
    network = refl;
    moment = refl;
    each = λ one there. absurd (let below = there.1 in omega arith);
    counted = λ segment kind_is begins.
        (let none = ready.none segment kind_is begins in omega arith);
    capped = λ ia. omega arith;
    right = ready.right;
  };
  twos = λ one there. absurd (let below = there.1 in omega arith);
  tried_all = λ way there. absurd (let below = there.1 in omega arith);
}

pub served : (per_pair core_len : ℕ) (wanted : Wanted) (first : ℕ) (old new : NetValue)
    (arrivals : List Arrival) (number : ℕ)
    → IsExploring old.network old.moment per_pair core_len wanted first old new arrivals number
    → length arrivals ≤ number → IsServed per_pair core_len wanted first old new
served per_pair core_len wanted first old new arrivals number is all = record {
  step = is.step;
  right = is.spread.right;
  complete = complete old.network old.moment per_pair core_len wanted first old new arrivals number
      is all;
}

-- what the loops of the search keep, for whoever is ready
abbrev pub Begins : (wanted : Wanted) (first : ℕ) (ways : List WayOut) (start net : NetValue)
    (arrivals : List Arrival) (tried : List WayOut) → Type 0
Begins wanted first ways start net arrivals tried = (per_pair core_len : ℕ)
    → IsReady per_pair core_len wanted first ways start
    → IsBeginning start.network start.moment per_pair core_len wanted first start net arrivals tried

abbrev pub Explores : (wanted : Wanted) (first : ℕ) (ways : List WayOut) (start net : NetValue)
    (arrivals : List Arrival) (number : ℕ) → Type 0
Explores wanted first ways start net arrivals number = (per_pair core_len : ℕ)
    → IsReady per_pair core_len wanted first ways start
    → IsExploring start.network start.moment per_pair core_len wanted first start net arrivals
    number

abbrev pub Passes : (wanted : Wanted) (first : ℕ) (ways : List WayOut) (start net : NetValue)
    (arrivals : List Arrival) (number : ℕ) (from : Arrival) (tried : List WayOut) → Type 0
Passes wanted first ways start net arrivals number from tried = (per_pair core_len : ℕ)
    → IsReady per_pair core_len wanted first ways start
    → IsPassing start.network start.moment per_pair core_len wanted first start net arrivals number
    from tried

-- the ways out of an AS are picked from all
abbrev pub Picks : (ways : List WayOut) (ia : ℕ) (picked : List WayOut) → Type 0
Picks ways ia picked = (n : Network) (class : LinkClass) → AreWays n class ways → AreWaysFrom n
    class ia picked

pub begins_next : (wanted : Wanted) (first : ℕ) (ways picked : List WayOut) (i : ℕ) (way : WayOut)
    (start old new : NetValue) (before after : List Arrival) → Picks ways first picked
    → i < length picked → get_or picked i way ≡ way → (own : Wanted) → own ≡ wanted
    → (beta : ℕ) × SendsIf (wants own way 1 before) (Originate way.near way.egress beta) way 2 old
    before new after
    → Begins wanted first ways start old before (take i picked)
    → Begins wanted first ways start new after (take (i + 1) picked)
begins_next wanted first ways picked i way start old new before after picks within at own same sends
    begins per_pair core_len ready =
    let all = picks start.network (class_of wanted.kind) ready.are_ways in
    let is = begins per_pair core_len ready in
    let there : Contains picked way = (i, within, at) in
    let try = begins_by start.network start.moment per_pair core_len wanted first way sends.0 old
    before new after
    ready.network ready.core ready.suits
    (All-contains (IsWay start.network (class_of wanted.kind)) picked way all.each there)
    (All-contains (λ (w : WayOut). w.near ≡ first) picked way all.near there) is.spread
    (subst (λ w. SendsIf (wants w way 1 before) (Originate way.near way.egress sends.0) way 2
    old before new after) same sends.1) in
    subst (IsBeginning start.network start.moment per_pair core_len wanted first start new after)
    (sym (take_more picked i way within ∙ ap (λ w. take i picked ++ w ∷ []) at))
    (begin_next start.network start.moment per_pair core_len wanted first start way old new before
    after
    (take i picked) is try)

pub begins_done : (wanted : Wanted) (first : ℕ) (ways picked : List WayOut) (i : ℕ)
    (start net : NetValue)
    (arrivals : List Arrival) → Picks ways first picked → length picked ≤ i
    → Begins wanted first ways start net arrivals (take i picked)
    → Explores wanted first ways start net arrivals 0
begins_done wanted first ways picked i start net arrivals picks past begins per_pair core_len
    ready =
    begin_done start.network start.moment per_pair core_len wanted first start net arrivals picked
    (picks start.network (class_of wanted.kind) ready.are_ways)
    (subst (IsBeginning start.network start.moment per_pair core_len wanted first start net
    arrivals)
    (take_all i picked past) (begins per_pair core_len ready))

pub passes_next : (wanted : Wanted) (first : ℕ) (ways picked : List WayOut) (i : ℕ) (way : WayOut)
    (start old new : NetValue) (before after : List Arrival) (number : ℕ) (from : Arrival)
    → Picks ways from.ia picked → i < length picked → get_or picked i way ≡ way → (own : Wanted)
    → own ≡ wanted
    → SendsIf (wants own way from.entries before && not (has_passed old from.beacon way.far))
    (Extend from.beacon way.near way.egress) way (from.entries + 1) old before new after
    → Passes wanted first ways start old before number from (take i picked)
    → Passes wanted first ways start new after number from (take (i + 1) picked)
passes_next wanted first ways picked i way start old new before after number from picks within at
    own same sends passes per_pair core_len ready =
    let all = picks start.network (class_of wanted.kind) ready.are_ways in
    let is = passes per_pair core_len ready in
    let there : Contains picked way = (i, within, at) in
    let try = passes_by start.network start.moment per_pair core_len wanted first way from old
    before new after
    ready.network ready.suits
    (All-contains (IsWay start.network (class_of wanted.kind)) picked way all.each there)
    (All-contains (λ (w : WayOut). w.near ≡ from.ia) picked way all.near there)
    (in_place before number from is.at) is.exploring.spread
    (subst (λ w. SendsIf (wants w way from.entries before && not
    (has_passed old from.beacon way.far))
    (Extend from.beacon way.near way.egress) way (from.entries + 1) old before new after) same
    sends) in
    subst (IsPassing start.network start.moment per_pair core_len wanted first start new after
    number from)
    (sym (take_more picked i way within ∙ ap (λ w. take i picked ++ w ∷ []) at))
    (pass_next start.network start.moment per_pair core_len wanted first start way old new before
    after number from
    (take i picked) is try)

pub passes_first : (wanted : Wanted) (first : ℕ) (ways picked : List WayOut) (start net : NetValue)
    (arrivals : List Arrival) (number : ℕ) (from : Arrival) → slice_get arrivals number ≡ Some from
    → Explores wanted first ways start net arrivals number
    → Passes wanted first ways start net arrivals number from []
passes_first wanted first ways picked start net arrivals number from at explores per_pair core_len
    ready =
    pass_first start.network start.moment per_pair core_len wanted first start net arrivals number
    from
    (explores per_pair core_len ready) at

pub passes_done : (wanted : Wanted) (first : ℕ) (ways picked : List WayOut) (i : ℕ)
    (start net : NetValue)
    (arrivals : List Arrival) (number : ℕ) (from : Arrival) → Picks ways from.ia picked → length
    picked ≤ i
    → Passes wanted first ways start net arrivals number from (take i picked)
    → Explores wanted first ways start net arrivals (number + 1)
passes_done wanted first ways picked i start net arrivals number from picks past passes per_pair
    core_len ready =
    pass_done start.network start.moment per_pair core_len wanted first start net arrivals number
    from picked
    (picks start.network (class_of wanted.kind) ready.are_ways)
    (subst (IsPassing start.network start.moment per_pair core_len wanted first start net arrivals
    number from)
    (take_all i picked past) (passes per_pair core_len ready))

pub begins_first : (wanted : Wanted) (first : ℕ) (ways : List WayOut) (start : NetValue)
    → Begins wanted first ways start start [] []
begins_first wanted first ways start per_pair core_len ready = ready_first per_pair core_len wanted
    first ways start ready

pub serves : (wanted : Wanted) (first : ℕ) (ways : List WayOut) (start net : NetValue)
    (arrivals : List Arrival)
    (number : ℕ) → slice_get arrivals number ≡ None → Explores wanted first ways start net arrivals
    number
    → Serves wanted first ways start net
serves wanted first ways start net arrivals number none explores per_pair core_len ready =
    let past : length arrivals ≤ number = elim (cases_lt number (length arrivals)) [
      | inl within ↦ absurd (past_end arrivals number within none)
      | inr past ↦ past
    ] in
    served per_pair core_len wanted first start net arrivals number
    (explores per_pair core_len ready) past
  where
    past_end : (list : List Arrival) (k : ℕ) → k < length list → slice_get list k ≡ None → ⊥
    past_end [] k within at = omega arith
    past_end (x ∷ list) zero within at = absurd cc
    past_end (x ∷ list) (suc k) within at = past_end list k (omega arith) at
