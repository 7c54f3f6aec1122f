-- Which ASes a core AS reaches, and which segments of a store begin and end where
-- (draft-dekater-scion-controlplane, path construction).
use Rattle.std.specs.Prelude.{◌≡◌, ◌≢◌, ◌⊎◌, ℕ, zero, suc, ◌+◌, ◌<◌, ◌≤◌, min, true, List, length, All, Any, count_by}
use Rattle.scion_topology.specs.declared.network.End.{End}
use Rattle.scion_topology.specs.declared.network.Link.{Link}
use Rattle.scion_topology.specs.declared.network.LinkClass.{LinkClass}
use Rattle.scion_topology.specs.declared.network.LinkClass.TheVariants as classes
use Rattle.scion_topology.specs.Causes.{is_core}
use Rattle.scion_topology.specs.Network.{Network}
use Rattle.path_segment.specs.declared.kind.SegKind.{SegKind}
use Rattle.path_segment.specs.declared.kind.SegKind.TheVariants.{Core, Intra}
use Rattle.path_segment.specs.Chain.{Chain, first_as, last_as}
use Rattle.path_server.specs.Segment.{is_alike}
use Rattle.beacon_lines.specs.declared.options.BeaconingOptions.{BeaconingOptions}

-- the class of the links that segments of a kind follow
abbrev pub class_of : SegKind → LinkClass
class_of Core = classes.Core
class_of Intra = classes.Child

-- the ends of a link are in these ASes
abbrev pub AreIn : (from to : ℕ) (near far : End) → Type 0
AreIn from to near far = (near.ia ≡ from) × (far.ia ≡ to)

-- the link is up and leads from one AS to the other: a core link in either direction, a child link
-- from parent to child
abbrev pub LeadsTo : (class : LinkClass) (from to : ℕ) (link : Link) → Type 0
LeadsTo classes.Core from to link = (link.class ≡ classes.Core) × ((link.up ≡ true)
    × (AreIn from to link.a link.b ⊎ AreIn from to link.b link.a))
LeadsTo classes.Child from to link = (link.class ≡ classes.Child) × ((link.up ≡ true)
    × AreIn from to link.a link.b)

-- a walk over this many links of this class leads from one AS to the other
abbrev pub IsReached : (n : Network) (class : LinkClass) (from : ℕ) (links to : ℕ) → Type 0
IsReached n class from zero to = from ≡ to
IsReached n class from (suc links) to = (middle : ℕ)
    × (IsReached n class from links middle × Any (LeadsTo class middle to) n.links)

-- a segment of this kind from one AS to the other, begun at this second, with at most so many
-- entries
pub record IsSegmentTo (kind : SegKind) (first last now most : ℕ) (segment : Chain) : Type 0 where
  pub kind_is : segment.kind ≡ kind
  pub begins : first_as segment ≡ first
  pub ends : last_as segment ≡ last
  pub begun : segment.timestamp ≡ now
  pub few : length segment.entries ≤ most

-- to each other AS that the AS reaches within `most` entries there is a segment of this kind, which
-- has no more entries than that walk has ASes
abbrev pub HasSegments : (n : Network) (kind : SegKind) (first now most : ℕ) (segments : List Chain)
    → Type 0
HasSegments n kind first now most segments = (links last : ℕ) → links < most
    → IsReached n (class_of kind) first links last → last ≢ first
    → Any (IsSegmentTo kind first last now (links + 1)) segments

-- of the segments of one kind between the same two ASes there are at most `most`
abbrev pub AreFew : (most : ℕ) (segments : List Chain) → Type 0
AreFew most segments = (segment : Chain) → count_by (is_alike segment) segments ≤ most

-- no core segment has more than `most` entries
abbrev pub AreShort : (most : ℕ) (segments : List Chain) → Type 0
AreShort most segments = All (λ segment. segment.kind ≡ Core → length segment.entries ≤ most)
    segments

-- the segments are as the options want them, each begun at the second of the options
pub record KeepsOptions (options : BeaconingOptions) (segments : List Chain) : Type 0 where
  pub few : AreFew options.per_pair segments
  pub short : AreShort options.core_len segments
  pub begun : All (λ segment. segment.timestamp ≡ options.now) segments

-- each core AS has a segment to each AS that it reaches down child links within 63 entries, and to
-- each core AS that it reaches over core links within as many entries as the options allow
pub record IsComplete (options : BeaconingOptions) (n : Network) (segments : List Chain)
    : Type 0 where
  pub down : (first : ℕ) → is_core n.ases first ≡ true
      → HasSegments n Intra first options.now 63 segments
  pub core : (first : ℕ) → is_core n.ases first ≡ true
      → HasSegments n Core first options.now (min options.core_len 63) segments
