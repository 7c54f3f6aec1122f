-- A packet stands where it stands whatever links go up or down and whatever keys change.
use Rattle.std.proofs.Common.{◌≡◌, ℕ, ◌+◌, Bool, if◌then◌else◌, List, [], ◌∷◌, drop, Result, Ok, refl, sym, ap, ◌∙◌}
use Rattle.scion_topology.specs.declared.fault.TopologyFault.{TopologyFault}
use Rattle.scion_topology.specs.Network.{Network}
use Rattle.scion_topology.specs.Topology.{owner_in, set_up, with_rotated_key}
use Rattle.scion_topology.proofs.Lasting.{same_interfaces, still_there}
use Rattle.path_segment.specs.declared.entry.Entry.{Entry}
use Rattle.policy_expr.specs.declared.hop.WalkHop.{WalkHop}
use Rattle.path_verifier.specs.Piece.{PieceValue}
use Rattle.router_step.specs.declared.arrival.Arrival.{Arrival}
use Rattle.router_step.specs.declared.arrival.Arrival.TheVariants.{FromHost, Inside, Link}
use Rattle.forwarding.specs.PathPosition.{PathPosition, out_by}
use Rattle.forwarding.specs.Turn.{Packet}
use Rattle.forwarding.specs.Journey.{is_one, turns_through, turns_over, turns_left, to_come}
use Rattle.forwarding.specs.OnPath.{IsPlaced, OnPath}

module _ (n m : Network)
    (same : (ia number : ℕ) → owner_in m ia number ≡ owner_in n ia number) where
  through_same : (hop : WalkHop) → turns_through m hop ≡ turns_through n hop
  through_same hop =
      ap (λ (o : Result ℕ TopologyFault). if is_one o (owner_in m hop.ia hop.egress) then 1 else 2)
      (same hop.ia hop.ingress)
      ∙ ap (λ (o : Result ℕ TopologyFault). if is_one
      (owner_in n hop.ia hop.ingress) o then 1 else 2)
      (same hop.ia hop.egress)

  over_same : (hops : List WalkHop) → turns_over m hops ≡ turns_over n hops
  over_same [] = refl
  over_same (last ∷ []) = refl
  over_same (hop ∷ next ∷ later) =
      ap (λ k. k + turns_over m (next ∷ later)) (through_same hop)
      ∙ ap (λ k. turns_through n hop + k) (over_same (next ∷ later))

  left_same : (arrival : Arrival) (hops : List WalkHop)
      → turns_left m arrival hops ≡ turns_left n arrival hops
  left_same FromHost hops = ap (λ k. 1 + k) (over_same (drop 1 hops))
  left_same Inside hops = ap (λ k. 1 + k) (over_same (drop 1 hops))
  left_same (Link interface) hops = over_same hops

  placed_same : (spot : PathPosition) (entry : Entry) (arrival : Arrival) (router came_in_by : ℕ)
      (passed : List WalkHop) → IsPlaced n spot entry arrival router came_in_by passed
      → IsPlaced m spot entry arrival router came_in_by passed
  placed_same spot entry FromHost router came_in_by passed placed = (
    placed.0,
    (
      placed.1.0,
      (
        placed.1.1.0,
        same entry.ia (out_by spot.piece entry) ∙ placed.1.1.1,
      ),
    ),
  )
  placed_same spot entry Inside router came_in_by passed placed =
      (placed.0, same entry.ia (out_by spot.piece entry) ∙ placed.1)
  placed_same spot entry (Link interface) router came_in_by passed placed = (
    placed.0,
    (
      placed.1.0,
      (
        placed.1.1.0,
        (
          placed.1.1.1.0,
          same entry.ia interface ∙ placed.1.1.1.1,
        ),
      ),
    ),
  )

  stands_still : (source destination : ℕ) (payload : List ℕ) (pieces : List PieceValue) (left : ℕ)
      (packet : Packet) → OnPath n source destination payload pieces left packet
      → OnPath m source destination payload pieces left packet
  stands_still source destination payload pieces left packet s = record {
    spot = s.spot;
    entry = s.entry;
    arrival = s.arrival;
    router = s.router;
    came_in_by = s.came_in_by;
    passed = s.passed;
    is = s.is;
    frame = s.frame;
    whole = s.whole;
    there = s.there;
    placed = placed_same s.spot s.entry s.arrival s.router s.came_in_by s.passed s.placed;
    walk = s.walk;
    count = s.count ∙ sym (left_same s.arrival (to_come s.came_in_by s.spot));
  }

pub stands_linked : (n m : Network) (up : Bool) (ia number source destination : ℕ)
    (payload : List ℕ)
    (pieces : List PieceValue) (left : ℕ) (packet : Packet) → set_up up ia number n ≡ Ok m
    → OnPath n source destination payload pieces left packet
    → OnPath m source destination payload pieces left packet
stands_linked n m up ia number source destination payload pieces left packet change =
    stands_still n m (λ x y. (still_there up ia number n m x y change).owner)
    source destination payload pieces left packet

pub stands_keyed : (n m : Network) (ia : ℕ) (key : List ℕ) (source destination : ℕ)
    (payload : List ℕ)
    (pieces : List PieceValue) (left : ℕ) (packet : Packet) → with_rotated_key ia key n ≡ Ok m
    → OnPath n source destination payload pieces left packet
    → OnPath m source destination payload pieces left packet
stands_keyed n m ia key source destination payload pieces left packet change =
    stands_still n m (λ x y. (same_interfaces ia key n m x y change).owner)
    source destination payload pieces left packet
