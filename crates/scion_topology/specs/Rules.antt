-- The rules of a network (draft-dekater-scion-controlplane: ASes, core links, links to children).
use Rattle.std.specs.Prelude.{◌≡◌, ◌≢◌, ◌<◌, ◌≤◌, true, false, List, [], ◌∷◌, length, All, AllPairs, Contains, flat_map}
use Rattle.isd_as.specs.Address.{isd_of}
use Rattle.scion_topology.specs.declared.network.AsEntry.{AsEntry}
use Rattle.scion_topology.specs.declared.network.End.{End}
use Rattle.scion_topology.specs.declared.network.Link.{Link}
use Rattle.scion_topology.specs.declared.network.LinkClass.{LinkClass}
use Rattle.scion_topology.specs.declared.network.LinkClass.TheVariants.{Core, Child}
use Rattle.scion_topology.specs.Keys.{AreKeys}
use Rattle.scion_topology.specs.Network.{Network, IsPlain}

-- the rules of an AS: no wildcard in its address, 1 to 64 routers, and one or two keys
pub record IsAs (one : AsEntry) : Type 0 where
  pub plain : IsPlain one.ia
  pub some_router : 1 ≤ one.routers
  pub few_routers : one.routers ≤ 64
  pub keys : AreKeys one.keys

-- the rules of an end of a link in an AS: its interface has a number, and the AS has its router
pub record IsEnd (end : End) (one : AsEntry) : Type 0 where
  pub of : end.ia ≡ one.ia
  pub numbered : end.number ≢ 0
  pub router : end.router < one.routers

-- a core link joins two core ASes; a child link joins a parent and a child of the same ISD, and the
-- child is no core AS
abbrev pub Joins : (class : LinkClass) (one other : AsEntry) → Type 0
Joins Core one other = (one.core ≡ true) × (other.core ≡ true)
Joins Child parent child = (isd_of parent.ia ≡ isd_of child.ia) × (child.core ≡ false)

-- the rules of a link: it joins two different ASes of the list, as its class allows
pub record IsLink (ases : List AsEntry) (link : Link) : Type 0 where
  pub one : AsEntry
  pub other : AsEntry
  pub one_listed : Contains ases one
  pub other_listed : Contains ases other
  pub a : IsEnd link.a one
  pub b : IsEnd link.b other
  pub apart : link.a.ia ≢ link.b.ia
  pub joins : Joins link.class one other

-- both ends of all links
abbrev pub ends_of : List Link → List End
ends_of links = flat_map (λ link. link.a ∷ link.b ∷ []) links

-- the two ends are different interfaces
abbrev pub AreTwo : (one other : End) → Type 0
AreTwo one other = ¬ ((one.ia ≡ other.ia) × (one.number ≡ other.number))

-- the rules of a network, which hold from its reading on and after each change: 1 to 1,024 ASes and
-- at most 4,096 links; each AS and each link keeps its rules; no two ASes have one address; each
-- interface is at one end
pub record IsNetwork (n : Network) : Type 0 where
  pub some_as : 1 ≤ length n.ases
  pub few_ases : length n.ases ≤ 1024
  pub few_links : length n.links ≤ 4096
  pub ases : All IsAs n.ases
  pub once : AllPairs (λ one other. one.ia ≢ other.ia) n.ases
  pub links : All (IsLink n.ases) n.links
  pub interfaces : AllPairs AreTwo (ends_of n.links)

-- the interfaces at both ends of a link have numbers other than 0
abbrev pub IsNumbered : Link → Type 0
IsNumbered link = (link.a.number ≢ 0) × (link.b.number ≢ 0)
