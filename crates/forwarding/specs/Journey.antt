-- The part of its walk that a packet has still to go, and the turns that it takes.
use Rattle.std.specs.Prelude.{ℕ, ◌+◌, ◌==◌, Bool, false, if◌then◌else◌, List, [], ◌∷◌, ◌++◌, drop, Result, Ok}
use Rattle.scion_topology.specs.declared.fault.TopologyFault.{TopologyFault}
use Rattle.scion_topology.specs.Network.{Network}
use Rattle.scion_topology.specs.Topology.{owner_in}
use Rattle.policy_expr.specs.declared.hop.WalkHop.{WalkHop}
use Rattle.path_verifier.specs.Piece.{PieceValue}
use Rattle.path_verifier.specs.Walk.{hops_of, entered_by, left_by}
use Rattle.router_step.specs.declared.arrival.Arrival.{Arrival}
use Rattle.router_step.specs.declared.arrival.Arrival.TheVariants.{FromHost, Inside, Link}
use Rattle.forwarding.specs.PathPosition.{PathPosition}

-- the way out of the first of these hops, or 0 if there is none
abbrev pub first_out : List WalkHop → ℕ
first_out [] = 0
first_out (hop ∷ later) = hop.egress

-- the way out by which a path goes on from the last AS of a piece to the pieces after it, or 0 if
-- there are none
abbrev pub way_beyond : List PieceValue → ℕ
way_beyond [] = 0
way_beyond (piece ∷ later) = first_out (hops_of piece)

-- the hops that the pieces after the current one add to the walk
abbrev pub walk_beyond : List PieceValue → List WalkHop
walk_beyond [] = []
walk_beyond (piece ∷ later) =
    left_by (way_beyond later) (drop 1 (hops_of piece)) ++ walk_beyond later

-- the walk from a place on, for a packet that came into its AS by this interface
abbrev pub to_come : ℕ → PathPosition → List WalkHop
to_come came_in_by spot =
    entered_by came_in_by (left_by (way_beyond spot.later) (drop spot.reached (hops_of spot.piece)))
    ++ walk_beyond spot.later

-- whether both interfaces exist and belong to one router
abbrev pub is_one : (one other : Result ℕ TopologyFault) → Bool
is_one (Ok one) (Ok other) = one == other
is_one one other = false

-- the turns in an AS between the first and the last one: 1 if one router owns both interfaces, else
-- 2
abbrev pub turns_through : Network → WalkHop → ℕ
turns_through n hop =
    if is_one (owner_in n hop.ia hop.ingress) (owner_in n hop.ia hop.egress) then 1 else 2

-- the turns for these hops, the last of which is the end of the walk
abbrev pub turns_over : Network → List WalkHop → ℕ
turns_over n [] = 0
turns_over n (last ∷ []) = 1
turns_over n (hop ∷ next ∷ later) = turns_through n hop + turns_over n (next ∷ later)

-- the turns that remain for a packet that arrived in this way in the first of these hops
abbrev pub turns_left : Network → Arrival → List WalkHop → ℕ
turns_left n (Link interface) hops = turns_over n hops
turns_left n Inside hops = 1 + turns_over n (drop 1 hops)
turns_left n FromHost hops = 1 + turns_over n (drop 1 hops)

-- the turns for a whole walk: one in the first AS, one in the last, and those of the ASes between
abbrev pub turns_for : Network → List WalkHop → ℕ
turns_for n walk = 1 + turns_over n (drop 1 walk)
