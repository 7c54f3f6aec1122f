-- Beacons and segments as a network makes them: their entries follow its links and carry its keys'
-- authenticators (draft-dekater-scion-controlplane, path construction).
use Rattle.std.specs.Prelude.{◌≡◌, ◌⊎◌, ℕ, ◌+◌, true, List, [], ◌∷◌, length, map, slice_get, Some, Result, Ok, Any}
use Rattle.refusal.specs.Refusal.{◌>>=◌}
use Rattle.hop_mac.specs.Hop.{authenticator}
use Rattle.scion_topology.specs.declared.entry.IfEntry.{IfEntry}
use Rattle.scion_topology.specs.declared.network.AsEntry.{AsEntry}
use Rattle.scion_topology.specs.declared.network.End.{End}
use Rattle.scion_topology.specs.declared.network.Link.{Link}
use Rattle.scion_topology.specs.declared.network.LinkClass.TheVariants as classes
use Rattle.scion_topology.specs.Network.{Network, as_named}
use Rattle.scion_topology.specs.Causes.{is_core}
use Rattle.scion_topology.specs.Topology.{interface_at, far_end_in}
use Rattle.scion_topology.specs.Ends.{IsUp}
use Rattle.path_segment.specs.declared.entry.Entry.{Entry}
use Rattle.path_segment.specs.declared.kind.SegKind.{SegKind}
use Rattle.path_segment.specs.declared.kind.SegKind.TheVariants.{Core, Intra}
use Rattle.path_segment.specs.Chain.{Chain, with_last, beta_of}
use Rattle.path_segment.specs.Rules.{AreOfSegment, IsBeacon}
use Rattle.beaconing.specs.declared.fault.BeaconFault.{BeaconFault}
use Rattle.beaconing.specs.Entry.{goes_on, key_in}
use Rattle.beaconing.specs.Calls.{last_of, come_to, extended_beacon}

-- the entry is of an AS of the network, has the AS's expiry, and is authenticated under this key
-- and accumulator
pub record IsEntryOf (n : Network) (time beta : ℕ) (key : List ℕ) (entry : Entry) : Type 0 where
  pub one : AsEntry
  pub named : as_named n.ases entry.ia ≡ Some one
  pub lifetime : entry.exp_time ≡ one.exp_time
  pub mac : entry.mac
      ≡ authenticator key beta time entry.exp_time entry.cons_ingress entry.cons_egress

-- `near` is the entry's way out, and `far` is the way in of the next entry
abbrev pub AreWays : (entry next : Entry) (near far : End) → Type 0
AreWays entry next near far = (near.ia ≡ entry.ia) × (near.number ≡ entry.cons_egress)
    × (far.ia ≡ next.ia) × (far.number ≡ next.cons_ingress)

-- the link leads from an entry to the next: a core link in either direction, a child link from
-- parent to child
abbrev pub LeadsOn : (kind : SegKind) (entry next : Entry) (link : Link) → Type 0
LeadsOn Core entry next link = (link.class ≡ classes.Core)
    × (AreWays entry next link.a link.b ⊎ AreWays entry next link.b link.a)
LeadsOn Intra entry next link = (link.class ≡ classes.Child) × AreWays entry next link.a link.b

-- the network makes these entries, each under the key at its place: the first is of a core AS, and
-- a link leads from each entry to the next
pub record IsMade (n : Network) (keys : List (List ℕ)) (chain : Chain) : Type 0 where
  pub keyed : length keys ≡ length chain.entries
  pub core : (one : Entry) → slice_get chain.entries 0 ≡ Some one → is_core n.ases one.ia ≡ true
  pub entries : (i : ℕ) (key : List ℕ) (entry : Entry)
      → slice_get keys i ≡ Some key → slice_get chain.entries i ≡ Some entry
      → IsEntryOf n chain.timestamp (beta_of chain i) key entry
  pub joined : (i : ℕ) (entry next : Entry) → slice_get chain.entries i ≡ Some entry
      → slice_get chain.entries (i + 1) ≡ Some next → Any (LeadsOn chain.kind entry next) n.links

-- the entry's way out is an interface over which a beacon of this kind may be sent on
pub record HasWayOut (n : Network) (kind : SegKind) (entry : Entry) : Type 0 where
  pub out : IfEntry
  pub there : interface_at n entry.ia entry.cons_egress ≡ Ok out
  pub on : goes_on kind out.kind ≡ true

-- a beacon that the network made under these keys and that may be sent on
pub record IsUnderWay (n : Network) (keys : List (List ℕ)) (beacon : Chain) : Type 0 where
  pub rules : IsBeacon beacon
  pub made : IsMade n keys beacon
  pub out : (last : Entry) → last_of beacon ≡ Some last → HasWayOut n beacon.kind last

-- a segment that the network made under these keys
pub record IsIssued (n : Network) (keys : List (List ℕ)) (segment : Chain) : Type 0 where
  pub rules : AreOfSegment segment.entries
  pub made : IsMade n keys segment

-- the keys in use of the ASes of a chain's entries
abbrev pub keys_in_use : Network → Chain → List (List ℕ)
keys_in_use n chain = map (λ entry. key_in n entry.ia) chain.entries

-- the beacon after these ASes have passed it on over these interfaces, one after another
abbrev pub passed_through : Network → Chain → List (ℕ × ℕ) → Result Chain BeaconFault
passed_through n beacon [] = Ok beacon
passed_through n beacon (hop ∷ hops) = do
  next ← extended_beacon n beacon hop.0 hop.1
  passed_through n next hops

-- the beacon arrives in this AS by this interface, over a link that is up
pub record ComesOver (n : Network) (beacon : Chain) (ia ingress : ℕ) : Type 0 where
  pub last : Entry
  pub is_last : last_of beacon ≡ Some last
  pub leads : far_end_in n last.ia last.cons_egress ≡ Ok (ia, ingress)
  pub up : IsUp n last.ia last.cons_egress true

-- the chain has one more entry than the beacon before: that of this AS, in which the beacon arrived
pub record Grows (n : Network) (before : Chain) (ia : ℕ) (after : Chain) : Type 0 where
  pub entry : Entry
  pub of : entry.ia ≡ ia
  pub came : come_to n before ia ≡ Ok entry.cons_ingress
  pub is : after ≡ with_last before entry
