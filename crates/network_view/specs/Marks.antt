-- The marks of a packet in the picture of its network.
use Rattle.std.specs.Prelude.{ℕ, ◌==◌, ◌&&◌, ◌||◌, Bool, false, List, Option, Some, None}
use Rattle.std.specs.List.{list_any}
use Rattle.policy_expr.specs.declared.hop.WalkHop.{WalkHop}
use Rattle.scion_topology.specs.declared.network.End.{End}
use Rattle.scion_topology.specs.declared.network.Link.{Link}
use Rattle.scion_topology.specs.Network.{is_end}
use Rattle.network_view.specs.declared.marks.Router.{Router}

-- whether the packet is at this router of this AS
abbrev pub is_at : (at : Option Router) (ia number : ℕ) → Bool
is_at None ia number = false
is_at (Some router) ia number = (router.ia == ia) && (router.number == number)

-- whether the packet is at a router of this AS
abbrev pub is_in : (at : Option Router) (ia : ℕ) → Bool
is_in None ia = false
is_in (Some router) ia = router.ia == ia

-- whether the hop leaves its AS by the interface of this end
abbrev pub leaves_by : End → WalkHop → Bool
leaves_by end hop = is_end end hop.ia hop.egress

-- whether a packet that has passed these hops has passed the link: it left an AS by one of its ends
abbrev pub was_passed : List WalkHop → Link → Bool
was_passed passed link = list_any (λ hop. leaves_by link.a hop || leaves_by link.b hop) passed
