-- One origin after another has its segments.
use Rattle.std.proofs.Common.{◌≡◌, ◌≢◌, ◌+◌, ◌≤◌, ◌<◌, ℕ, min, Bool, true, false, cond, List, [], length, Contains, AllPairs, count_by, Option, Some, None, refl, sym, ap, ◌∙◌, subst, inl, inr, arith}
use Rattle.std.specs.Prelude.{slice_get}
use Rattle.std.proofs.lemmas.Bool.{cases_lt, true≢false}
use Rattle.std.proofs.lemmas.Option.{get_or_from_slice_get, slice_get-get_or, slice_get_within}
use Rattle.scion_topology.specs.declared.network.AsEntry.{AsEntry}
use Rattle.scion_topology.specs.declared.network.LinkClass.TheVariants as classes
use Rattle.scion_topology.specs.Causes.{is_core}
use Rattle.scion_topology.specs.Network.{Network, as_named}
use Rattle.scion_topology.specs.Topology.{IsNetwork}
use Rattle.scion_topology.proofs.Judging.{ia_of_named, listed_of_named, named_listed}
use Rattle.path_segment.specs.declared.kind.SegKind.{SegKind}
use Rattle.path_segment.specs.declared.kind.SegKind.TheVariants.{Core, Intra}
use Rattle.path_segment.specs.Chain.{Chain, first_as}
use Rattle.path_server.specs.Segment.{is_alike}
use Rattle.network_core.specs.Value.{NetValue}
use Rattle.network_core.specs.Step.{has_room}
use Rattle.beacon_lines.specs.declared.options.BeaconingOptions.{BeaconingOptions}
use Rattle.beacon_lines.specs.declared.search.SearchGraph.{SearchGraph}
use Rattle.beacon_lines.specs.Reach.{HasSegments}
use Rattle.beacon_lines.specs.inner.Growth.{Grows}
use Rattle.beacon_lines.specs.inner.Search.{AreRight, HasBoth, HasNone, IsGraphOf, IsServedAll, IsServedBoth, Serves, ServesAll, ServesBoth, begun_net, core_at}
use Rattle.beacon_lines.specs.inner.Ways.{AreWays}

-- what stays
then_grows : (old between new : NetValue) → Grows old between → Grows between new → Grows old new
then_grows old between new one two = record {
  network = two.network ∙ one.network;
  moment = two.moment ∙ one.moment;
  beacons = λ number chain there. two.beacons number chain (one.beacons number chain there);
  segments = λ segment there. two.segments segment (one.segments segment there);
  room = λ room. one.room (two.room room);
}

has_still : (n : Network) (kind : SegKind) (first now most : ℕ) (old new : NetValue) → Grows old new
    → HasSegments n kind first now most old.segments → HasSegments n kind first now most
    new.segments
has_still n kind first now most old new grows has links last few walk other =
    let found = has links last few walk other in
    let there = grows.segments found.1 (found.0, found.2, found.3) in
    (there.0, found.1, there.1, there.2, found.4)

both_still : (options : BeaconingOptions) (n : Network) (first now : ℕ) (old new : NetValue) → Grows
    old new
    → HasBoth options n first now old.segments → HasBoth options n first now new.segments
both_still options n first now old new grows has = record {
  down = has_still n Intra first now 63 old new grows has.down;
  core = has_still n Core first now (min options.core_len 63) old new grows has.core;
}

-- ---- one origin

pub served_both : (options : BeaconingOptions) (graph : SearchGraph) (first per_pair short : ℕ)
    (old between new : NetValue) → per_pair ≡ min options.per_pair 32 → short ≡ min options.core_len
    63
    → Serves (record { kind = Intra; per_pair = per_pair; entries = 63 }) first
    graph.down.ways.items old between
    → Serves (record { kind = Core; per_pair = per_pair; entries = short }) first
    graph.core.ways.items between new
    → IsNetwork old.network → IsGraphOf old.network graph → is_core old.network.ases first ≡ true
    → AreRight options.per_pair options.core_len old.moment old.segments
    → ((kind : SegKind) → HasNone kind first old.segments)
    → IsServedBoth options first old new
served_both options graph first per_pair short old between new few long down core network are_ways
    core_as right none =
    let one = down options.per_pair options.core_len (record {
      network = network;
      core = core_as;
      suits = record {
        few = omega arith;
        stored = omega arith;
        long = omega arith;
        short = λ same.
            absurd cc;
      };
      are_ways = are_ways.down;
      right = right;
      none = none Intra;
    }) in
    let grown = one.step.grows in
    let two = core options.per_pair options.core_len (record {
      network = subst IsNetwork (sym grown.network) network;
      core = ap (λ (n : Network). is_core n.ases first) grown.network ∙ core_as;
      suits = record {
        few = omega arith;
        stored = omega arith;
        long = omega arith;
        short = λ same.
            omega arith;
      };
      are_ways = subst (λ n. AreWays n classes.Core graph.core.ways.items) (sym grown.network)
          are_ways.core;
      right = subst (λ now. AreRight options.per_pair options.core_len now between.segments)
          (sym grown.moment) one.right;
      none = λ segment kind_is begins. one.step.others segment
          (λ own. absurd (let clash = sym kind_is ∙ own.0 in cc)) ∙ none Core segment kind_is
          begins;
    }) in
    let more = two.step.grows in
    record {
      grows = then_grows old between new grown more;
      others = λ segment other. two.step.others segment (λ own. other own.1) ∙ one.step.others
          segment (λ own. other own.1);
      right = subst (λ now. AreRight options.per_pair options.core_len now new.segments)
          grown.moment two.right;
      complete = λ some room. record {
        down = has_still old.network Intra first old.moment 63 between new more
            (one.complete (omega arith) (more.room room));
        core = subst (λ most. HasSegments old.network Core first old.moment most new.segments) long
            (subst (λ now. HasSegments old.network Core first now short new.segments) grown.moment
            (subst (λ n. HasSegments n Core first between.moment short new.segments) grown.network
            (two.complete (omega arith) room)));
      };
    }

-- ---- all origins

-- the origins before this place have their segments, and no segment begins elsewhere
pub record AreServed (options : BeaconingOptions) (start net : NetValue) (place : ℕ) : Type 0 where
  pub grows : Grows start net
  pub right : AreRight options.per_pair options.core_len start.moment net.segments
  pub none : (segment : Chain)
      → ((k : ℕ) (one : AsEntry) → k < place → slice_get start.network.ases k ≡ Some one → one.ia ≢
      first_as segment)
      → count_by (is_alike segment) net.segments ≡ 0
  pub complete : 0 < options.per_pair → has_room net.beacons ≡ true → (k : ℕ) (one : AsEntry) → k <
      place
      → slice_get start.network.ases k ≡ Some one → one.core ≡ true
      → HasBoth options start.network one.ia start.moment net.segments

pub none_served : (options : BeaconingOptions) (start : NetValue) → start.segments ≡ []
    → AreServed options start start 0
none_served options start empty = record {
  grows = record {
    network = refl;
    moment = refl;
    beacons = λ number chain there. there;
    segments = λ segment there. there;
    room = λ room. room;
  };
  right = record {
    few = λ segment. (let none = count_none segment in omega arith);
    short = λ segment there. absurd (nothing segment there);
    begun = λ segment there. absurd (nothing segment there);
  };
  none = λ segment other. count_none segment;
  complete = λ some room k one below. absurd (omega arith);
}
  where
    count_none : (segment : Chain) → count_by (is_alike segment) start.segments ≡ 0
    count_none segment = ap (count_by (is_alike segment)) empty

    nothing : (segment : Chain) → Contains start.segments segment → ⊥
    nothing segment there = (let below = there.1 in let short = ap length empty in omega arith)

-- two places of the list have different addresses
apart : (ases : List AsEntry) → AllPairs (λ (one other : AsEntry). one.ia ≢ other.ia) ases
    → (j k : ℕ) (one other : AsEntry) → j < k → slice_get ases j ≡ Some one → slice_get ases k
    ≡ Some other
    → one.ia ≢ other.ia
apart ases once j k one other below at_j at_k same =
    once j k one below (slice_get_within ases k other at_k)
    (ap (λ (a : AsEntry). a.ia) (get_or_from_slice_get ases j one one at_j) ∙ (same
    ∙ sym (ap (λ (a : AsEntry). a.ia) (get_or_from_slice_get ases k other one at_k))))

-- an AS of the list is the one of its address
core_there : (ases : List AsEntry) → AllPairs (λ (one other : AsEntry). one.ia ≢ other.ia) ases
    → (k : ℕ) (one : AsEntry) → slice_get ases k ≡ Some one → one.core ≡ true → is_core ases one.ia
    ≡ true
core_there ases once k one at core =
    let named = named_listed ases one once
    (k, slice_get_within ases k one at, get_or_from_slice_get ases k one one at) in
    rw named core

-- the AS at a place of which `core_at` speaks
core_of : (ases : List AsEntry) (place : ℕ) (ia : ℕ) → core_at ases place ≡ Some ia
    → (one : AsEntry) × ((slice_get ases place ≡ Some one) × ((one.core ≡ true) × (one.ia ≡ ia)))
core_of ases place ia is = of (slice_get ases place) refl is
  where
    tested : (one : AsEntry) (test : Bool) → one.core ≡ test → cond test (Some one.ia) None ≡ Some
        ia
        → (one.core ≡ true) × (one.ia ≡ ia)
    tested one true core here = (core, cc)
    tested one false core here = absurd cc

    of : (found : Option AsEntry) → slice_get ases place ≡ found → core_at ases place ≡ Some ia
        → (one : AsEntry) × ((slice_get ases place ≡ Some
        one) × ((one.core ≡ true) × (one.ia ≡ ia)))
    of None at here = absurd (let none : core_at ases place ≡ None = rw at refl in cc)
    of (Some one) at here =
        let known : cond one.core (Some one.ia) None ≡ Some ia = rw at at here in
        (one, (at, tested one one.core refl known))

pub next_served : (options : BeaconingOptions) (start old new : NetValue) (place origin : ℕ)
    → IsNetwork start.network → core_at start.network.ases place ≡ Some origin
    → AreServed options start old place
    → (is_core old.network.ases origin ≡ true → AreRight options.per_pair options.core_len
    old.moment old.segments
    → ((kind : SegKind) → HasNone kind origin old.segments) → IsServedBoth options origin old new)
    → AreServed options start new (place + 1)
next_served options start old new place origin network is served serves =
    let ases = start.network.ases in
    let found = core_of ases place origin is in
    let one = found.0 in
    let at = found.1.0 in
    let core = found.1.1.0 in
    let origin_is = found.1.1.1 in
    let core_old : is_core old.network.ases origin ≡ true =
    ap (λ (n : Network). is_core n.ases origin) served.grows.network
    ∙ subst (λ ia. is_core ases ia ≡ true) origin_is
    (core_there ases network.once place one at core) in
    let both = serves core_old
    (subst (λ now. AreRight options.per_pair options.core_len now old.segments)
    (sym served.grows.moment) served.right)
    (λ kind segment kind_is begins. served.none segment (λ k earlier below earlier_at same.
    apart ases network.once k place earlier one below earlier_at at
    (same ∙ (begins ∙ sym origin_is)))) in
    record {
      grows = then_grows start old new served.grows both.grows;
      right = subst (λ now. AreRight options.per_pair options.core_len now new.segments)
          served.grows.moment both.right;
      none = λ segment others.
          both.others segment (λ begins. others place one (omega arith) at (origin_is ∙ sym begins))
          ∙ served.none segment (λ k earlier below earlier_at. others k earlier (omega arith)
          earlier_at);
      complete = λ some room k other below other_at other_core. elim (cases_lt k place) [
        | inl lower ↦ both_still options start.network other.ia start.moment old new both.grows
            (served.complete some (both.grows.room room) k other lower other_at other_core)
        | inr above ↦ (
            let here : place ≡ k = omega arith in
            let same : one ≡ other = (let two : Some one ≡ Some other = sym at
            ∙ (ap (slice_get ases) here ∙ other_at) in cc) in
            let of_origin : origin ≡ other.ia = sym origin_is ∙ ap (λ (a : AsEntry). a.ia) same in
            subst (λ ia. HasBoth options start.network ia start.moment new.segments) of_origin
            (subst (λ now. HasBoth options start.network origin now new.segments)
            served.grows.moment
            (subst (λ n. HasBoth options n origin old.moment new.segments) served.grows.network
            (both.complete some room))))
      ];
    }

pub skip_served : (options : BeaconingOptions) (start net : NetValue) (place : ℕ)
    → core_at start.network.ases place ≡ None → AreServed options start net place
    → AreServed options start net (place + 1)
skip_served options start net place is served = record {
  grows = served.grows;
  right = served.right;
  none = λ segment others. served.none segment
      (λ k earlier below earlier_at. others k earlier (omega arith) earlier_at);
  complete = λ some room k other below other_at other_core. elim (cases_lt k place) [
    | inl lower ↦ served.complete some room k other lower other_at other_core
    | inr above ↦ absurd (
        let here : k ≡ place = omega arith in
        let at : slice_get start.network.ases place ≡ Some other = ap (slice_get start.network.ases)
        (sym here) ∙ other_at in
        let there : core_at start.network.ases place ≡ Some other.ia = rw (at, other_core) refl in
        let clash : None ≡ Some other.ia = sym is ∙ there in
        cc)
  ];
}

pub all_served : (options : BeaconingOptions) (start net : NetValue) (place : ℕ)
    → length start.network.ases ≤ place → AreServed options start net place
    → IsServedAll options start net
all_served options start net place all served = record {
  grows = served.grows;
  right = served.right;
  complete = λ some room first core. of (as_named start.network.ases first) first refl core some
      room;
}
  where
    of : (found : Option AsEntry) (first : ℕ) → as_named start.network.ases first ≡ found → is_core
        start.network.ases first ≡ true
        → 0 < options.per_pair → has_room net.beacons ≡ true
        → HasBoth options start.network first start.moment net.segments
    of None first named core some room = absurd (
        let none : is_core start.network.ases first ≡ false = rw named refl in
        true≢false (sym core ∙ none))
    of (Some one) first named core some room =
        let core_one : one.core ≡ true = rw named at core in
        let listed = listed_of_named start.network.ases first one named in
        let within = listed.1 in
        let at : slice_get start.network.ases listed.0 ≡ Some one =
        slice_get-get_or start.network.ases listed.0 one within ∙ ap Some listed.2 in
        subst (λ ia. HasBoth options start.network ia start.moment net.segments)
        (ia_of_named start.network.ases first one named)
        (served.complete some room listed.0 one (omega arith) at core_one)

-- a beaconing begins with nothing
pub from_nothing : (options : BeaconingOptions) (graph : SearchGraph) (n : Network)
    (old new : NetValue)
    → old ≡ begun_net n options.now → IsNetwork n → IsGraphOf n graph → ServesAll options graph old
    new
    → IsServedAll options (begun_net n options.now) new
from_nothing options graph n old new is network are_ways serves =
    subst (λ (m : NetValue). ServesAll options graph m new) is serves network are_ways refl

-- the origin at one place more is served, or no origin is there
pub next_with : (options : BeaconingOptions) (graph : SearchGraph) (start old new : NetValue)
    (place origin : ℕ)
    → core_at old.network.ases place ≡ Some origin
    → (IsNetwork start.network → IsGraphOf start.network graph → start.segments ≡ [] → AreServed
    options start old place)
    → ServesBoth options graph origin old new
    → IsNetwork start.network → IsGraphOf start.network graph → start.segments ≡ [] → AreServed
    options start new (place + 1)
next_with options graph start old new place origin is served serves network are_ways empty =
    let so_far = served network are_ways empty in
    let same = so_far.grows.network in
    next_served options start old new place origin network
    (sym (ap (λ (n : Network). core_at n.ases place) same) ∙ is) so_far
    (serves (subst IsNetwork (sym same) network)
    (subst (λ n. IsGraphOf n graph) (sym same) are_ways))

pub skip_with : (options : BeaconingOptions) (graph : SearchGraph) (start net : NetValue)
    (place : ℕ)
    → core_at net.network.ases place ≡ None
    → (IsNetwork start.network → IsGraphOf start.network graph → start.segments ≡ [] → AreServed
    options start net place)
    → IsNetwork start.network → IsGraphOf start.network graph → start.segments ≡ [] → AreServed
    options start net (place + 1)
skip_with options graph start net place is served network are_ways empty =
    let so_far = served network are_ways empty in
    skip_served options start net place
    (sym (ap (λ (n : Network). core_at n.ases place) so_far.grows.network) ∙ is) so_far
