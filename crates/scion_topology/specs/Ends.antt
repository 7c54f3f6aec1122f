-- What the queries of a network answer about a link's ends, and what stays the same when it
-- changes.
use Rattle.std.specs.Prelude.{◌≡◌, ℕ, Bool, Contains, Ok, ◌⊎◌}
use Rattle.scion_topology.specs.declared.entry.IfEntry.{IfEntry}
use Rattle.scion_topology.specs.declared.network.End.{End}
use Rattle.scion_topology.specs.declared.network.Link.{Link}
use Rattle.scion_topology.specs.Network.{Network, kind_at_a, kind_at_b, end_as_interface}
use Rattle.scion_topology.specs.Topology.{interface_at, far_end_in, owner_in}

-- the queries of a network for one end of a link: its interface, the router that owns it, and the
-- far end
pub record IsShown (n : Network) (end other : End) (entry : IfEntry) : Type 0 where
  pub shown : interface_at n end.ia end.number ≡ Ok entry
  pub owner : owner_in n end.ia end.number ≡ Ok end.router
  pub leads : far_end_in n end.ia end.number ≡ Ok (other.ia, other.number)

-- both ends of a link as interfaces, and the queries for both
abbrev pub at_a : Link → IfEntry
at_a link = end_as_interface link.a (kind_at_a link.class) link.up

abbrev pub at_b : Link → IfEntry
at_b link = end_as_interface link.b (kind_at_b link.class) link.up

pub record ShowsBothEnds (n : Network) (link : Link) : Type 0 where
  pub a : IsShown n link.a link.b (at_a link)
  pub b : IsShown n link.b link.a (at_b link)

-- the end is at this interface of this AS
abbrev pub IsAt : (end : End) (ia number : ℕ) → Type 0
IsAt end ia number = (end.ia ≡ ia) × (end.number ≡ number)

-- a link of the network joins these two interfaces
pub record AreJoined (n : Network) (ia number far_ia far_number : ℕ) : Type 0 where
  pub link : Link
  pub listed : Contains n.links link
  pub ends : (IsAt link.a ia number × IsAt link.b far_ia far_number)
      ⊎ (IsAt link.b ia number × IsAt link.a far_ia far_number)

-- this interface of this AS is an end of a link of the network
pub record IsEndOf (n : Network) (ia number : ℕ) (entry : IfEntry) : Type 0 where
  pub link : Link
  pub listed : Contains n.links link
  pub end : (IsAt link.a ia number × (entry ≡ at_a link))
      ⊎ (IsAt link.b ia number × (entry ≡ at_b link))

-- the interface's link is in this state: `true` is up, and `false` is down
pub record IsUp (n : Network) (ia number : ℕ) (up : Bool) : Type 0 where
  pub entry : IfEntry
  pub shown : interface_at n ia number ≡ Ok entry
  pub is : entry.up ≡ up

-- after a change an interface has the same owner and the same far end; the interface itself differs
-- at most in whether its link is up
pub record IsStill (n m : Network) (ia number : ℕ) : Type 0 where
  pub owner : owner_in m ia number ≡ owner_in n ia number
  pub leads : far_end_in m ia number ≡ far_end_in n ia number
  pub shown : (entry : IfEntry) → interface_at n ia number ≡ Ok entry
      → (up : Bool) × (interface_at m ia number ≡ Ok (record entry { up = up }))

-- a change leaves the interface as it was
pub record IsSame (n m : Network) (ia number : ℕ) : Type 0 where
  pub owner : owner_in m ia number ≡ owner_in n ia number
  pub leads : far_end_in m ia number ≡ far_end_in n ia number
  pub shown : interface_at m ia number ≡ interface_at n ia number
