-- What the search from one origin is given, and what it leaves.
use Rattle.std.specs.Prelude.{◌≡◌, ◌≢◌, ℕ, ◌<◌, ◌≤◌, min, true, if◌then◌else◌, List, [], length, Contains, count_by, slice_get, Option, Some, None}
use Rattle.std.specs.Option.{option_and_then}
use Rattle.scion_topology.specs.declared.network.AsEntry.{AsEntry}
use Rattle.scion_topology.specs.declared.network.LinkClass.TheVariants as classes
use Rattle.scion_topology.specs.Network.{Network}
use Rattle.scion_topology.specs.Causes.{is_core}
use Rattle.scion_topology.specs.Topology.{IsNetwork}
use Rattle.path_segment.specs.declared.kind.SegKind.{SegKind}
use Rattle.path_segment.specs.declared.kind.SegKind.TheVariants.{Core, Intra}
use Rattle.path_segment.specs.Chain.{Chain, first_as}
use Rattle.path_server.specs.Segment.{is_alike}
use Rattle.network_core.specs.Value.{NetValue, new_net}
use Rattle.network_core.specs.Step.{has_room}
use Rattle.beacon_lines.specs.declared.options.BeaconingOptions.{BeaconingOptions}
use Rattle.beacon_lines.specs.declared.search.SearchGraph.{SearchGraph}
use Rattle.beacon_lines.specs.declared.search.Wanted.{Wanted}
use Rattle.beacon_lines.specs.declared.ways.WayOut.{WayOut}
use Rattle.beacon_lines.specs.Reach.{HasSegments, class_of}
use Rattle.beacon_lines.specs.inner.Growth.{Grows}
use Rattle.beacon_lines.specs.inner.Ways.{AreWays}

-- what is wanted of an origin is within the options and the limits
pub record Suits (per_pair core_len : ℕ) (wanted : Wanted) : Type 0 where
  pub few : wanted.per_pair ≤ per_pair
  pub stored : wanted.per_pair ≤ 32
  pub long : wanted.entries ≤ 63
  pub short : wanted.kind ≡ Core → wanted.entries ≤ core_len

-- the segments of a store are as the options want them, and were begun at this second
pub record AreRight (per_pair core_len now : ℕ) (segments : List Chain) : Type 0 where
  pub few : (segment : Chain) → count_by (is_alike segment) segments ≤ per_pair
  pub short : (segment : Chain) → Contains segments segment → segment.kind ≡ Core
      → length segment.entries ≤ core_len
  pub begun : (segment : Chain) → Contains segments segment → segment.timestamp ≡ now

-- the network keeps what it has; there are as many segments as before of another kind or from
-- another AS
pub record IsStep (kind : SegKind) (first : ℕ) (old new : NetValue) : Type 0 where
  pub grows : Grows old new
  pub others : (segment : Chain) → ((segment.kind ≡ kind) × (first_as segment ≡ first) → ⊥)
      → count_by (is_alike segment) new.segments ≡ count_by (is_alike segment) old.segments

-- there is no segment of this kind from this AS
abbrev pub HasNone : SegKind → ℕ → List Chain → Type 0
HasNone kind first segments = (segment : Chain) → segment.kind ≡ kind → first_as segment ≡ first
    → count_by (is_alike segment) segments ≡ 0

-- an origin may begin: it is a core AS of the network, these are the ways, and no segment of the
-- wanted kind begins in it so far
pub record IsReady (per_pair core_len : ℕ) (wanted : Wanted) (first : ℕ) (ways : List WayOut)
    (net : NetValue) : Type 0 where
  pub network : IsNetwork net.network
  pub core : is_core net.network.ases first ≡ true
  pub suits : Suits per_pair core_len wanted
  pub are_ways : AreWays net.network (class_of wanted.kind) ways
  pub right : AreRight per_pair core_len net.moment net.segments
  pub none : HasNone wanted.kind first net.segments

-- the origin has its segments, unless the network is full or none are wanted
pub record IsServed (per_pair core_len : ℕ) (wanted : Wanted) (first : ℕ) (old new : NetValue)
    : Type 0 where
  pub step : IsStep wanted.kind first old new
  pub right : AreRight per_pair core_len old.moment new.segments
  pub complete : 0 < wanted.per_pair → has_room new.beacons ≡ true
      → HasSegments old.network wanted.kind first old.moment wanted.entries new.segments

-- an origin that may begin is served
abbrev pub Serves : (wanted : Wanted) (first : ℕ) (ways : List WayOut) (old new : NetValue) → Type 0
Serves wanted first ways old new = (per_pair core_len : ℕ)
    → IsReady per_pair core_len wanted first ways old
    → IsServed per_pair core_len wanted first old new

-- ---- all origins

-- the ways of both kinds are those of the network
pub record IsGraphOf (n : Network) (graph : SearchGraph) : Type 0 where
  pub down : AreWays n classes.Child graph.down.ways.items
  pub core : AreWays n classes.Core graph.core.ways.items

-- the ways of segments of a kind
abbrev pub ways_for : SearchGraph → SegKind → List WayOut
ways_for graph Core = graph.core.ways.items
ways_for graph Intra = graph.down.ways.items

-- the address of the AS at this place, if it is a core AS
abbrev pub core_at : List AsEntry → ℕ → Option ℕ
core_at ases place = option_and_then (λ one. if one.core then Some one.ia else None)
    (slice_get ases place)

-- an AS has its segments of both kinds
pub record HasBoth (options : BeaconingOptions) (n : Network) (first now : ℕ)
    (segments : List Chain) : Type 0 where
  pub down : HasSegments n Intra first now 63 segments
  pub core : HasSegments n Core first now (min options.core_len 63) segments

-- one origin has its segments of both kinds, unless the network is full or none are wanted
pub record IsServedBoth (options : BeaconingOptions) (first : ℕ) (old new : NetValue) : Type 0 where
  pub grows : Grows old new
  pub others : (segment : Chain) → first_as segment ≢ first
      → count_by (is_alike segment) new.segments ≡ count_by (is_alike segment) old.segments
  pub right : AreRight options.per_pair options.core_len old.moment new.segments
  pub complete : 0 < options.per_pair → has_room new.beacons ≡ true
      → HasBoth options old.network first old.moment new.segments

-- a core AS in which no segment begins so far is served
abbrev pub ServesBoth : (options : BeaconingOptions) (graph : SearchGraph) (first : ℕ)
    (old new : NetValue) → Type 0
ServesBoth options graph first old new = IsNetwork old.network → IsGraphOf old.network graph
    → is_core old.network.ases first ≡ true
    → AreRight options.per_pair options.core_len old.moment old.segments
    → ((kind : SegKind) → HasNone kind first old.segments) → IsServedBoth options first old new

-- each core AS has its segments of both kinds, unless the network is full or none are wanted
pub record IsServedAll (options : BeaconingOptions) (old new : NetValue) : Type 0 where
  pub grows : Grows old new
  pub right : AreRight options.per_pair options.core_len old.moment new.segments
  pub complete : 0 < options.per_pair → has_room new.beacons ≡ true
      → (first : ℕ) → is_core old.network.ases first ≡ true
      → HasBoth options old.network first old.moment new.segments

-- in a network without segments each core AS is served
abbrev pub ServesAll : (options : BeaconingOptions) (graph : SearchGraph) (old new : NetValue)
    → Type 0
ServesAll options graph old new = IsNetwork old.network → IsGraphOf old.network graph
    → old.segments ≡ [] → IsServedAll options old new

-- the network of this topology at this second, with nothing in it
abbrev pub begun_net : Network → ℕ → NetValue
begun_net n now = record (new_net n) { moment = now }
