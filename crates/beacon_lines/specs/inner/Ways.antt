-- The ways by which beacons leave ASes.
use Rattle.std.specs.Prelude.{◌≡◌, ℕ, if◌then◌else◌, List, [], ◌∷◌, All, Contains}
use Rattle.std.specs.List.Sorted.{IsNonDecreasingBy}
use Rattle.scion_topology.specs.declared.network.End.{End}
use Rattle.scion_topology.specs.declared.network.Link.{Link}
use Rattle.scion_topology.specs.declared.network.LinkClass.{LinkClass}
use Rattle.scion_topology.specs.declared.network.LinkClass.TheVariants.{Core, Child}
use Rattle.scion_topology.specs.Network.{Network}
use Rattle.beacon_lines.specs.declared.ways.WayOut.{WayOut}

-- the way from one end of a link to the other
abbrev pub way_between : (near far : End) → WayOut
way_between near far = record { near = near.ia; egress = near.number; far = far.ia }

-- the ways by a link of a class between these ends, if that class is wanted
abbrev pub ways_by : (wanted class : LinkClass) (a b : End) → List WayOut
ways_by Core Core a b = way_between a b ∷ way_between b a ∷ []
ways_by Child Child a b = way_between a b ∷ []
ways_by wanted class a b = []

-- the ways by a link, if it is up and of the wanted class
abbrev pub ways_over : (wanted : LinkClass) (link : Link) → List WayOut
ways_over wanted link = if link.up then ways_by wanted link.class link.a link.b else []

-- a link of this class that is up is this way: a core link in either direction, a child link from
-- parent to child
pub record IsWay (n : Network) (class : LinkClass) (way : WayOut) : Type 0 where
  pub link : Link
  pub listed : Contains n.links link
  pub is : Contains (ways_over class link) way

-- these are the ways of a network by links of one class, by their ASes
pub record AreWays (n : Network) (class : LinkClass) (ways : List WayOut) : Type 0 where
  pub each : All (IsWay n class) ways
  pub all : (way : WayOut) → IsWay n class way → Contains ways way
  pub ordered : IsNonDecreasingBy (λ way. way.near) ways

-- these are the ways of a network by links of one class out of one AS
pub record AreWaysFrom (n : Network) (class : LinkClass) (ia : ℕ) (ways : List WayOut)
    : Type 0 where
  pub each : All (IsWay n class) ways
  pub near : All (λ way. way.near ≡ ia) ways
  pub all : (way : WayOut) → IsWay n class way → way.near ≡ ia → Contains ways way
