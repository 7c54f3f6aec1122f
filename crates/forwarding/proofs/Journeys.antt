-- A packet from turn to turn, up to its delivery.
use Rattle.std.proofs.Common.{◌≡◌, ℕ, ◌-◌, ◌<◌, ◌≤◌, Bool, true, false, if◌then◌else◌, List, [], ◌∷◌, length, All, refl, ap, ◌∙◌, subst, arith, inl, inr}
use Rattle.std.specs.List.{AllByRecursion}
use Rattle.std.proofs.lemmas.List.Elements.{recursion_from_All}
use Rattle.scion_topology.specs.Network.{Network}
use Rattle.scion_topology.specs.Topology.{owner_in}
use Rattle.policy_expr.specs.declared.hop.WalkHop.{WalkHop}
use Rattle.path_verifier.specs.Piece.{PieceValue}
use Rattle.router_step.specs.declared.arrival.Arrival.{Arrival}
use Rattle.router_step.specs.declared.arrival.Arrival.TheVariants.{FromHost, Inside, Link}
use Rattle.forwarding.specs.Turn.{Packet, turn_of, turned_packet, after}
use Rattle.forwarding.specs.Journey.{is_one, turns_over, turns_left, to_come}
use Rattle.forwarding.specs.Forwardable.{MayForward}
use Rattle.forwarding.specs.OnPath.{OnPath, arrived_with}
use Rattle.forwarding.proofs.Way.{some_to_come}
use Rattle.forwarding.proofs.Leading.{one_turn}

-- ---- a packet that stands has a turn before it

one_at_least : (b : Bool) → 1 ≤ (if b then 1 else 2)
one_at_least true = omega arith
one_at_least false = omega arith

some_over : (n : Network) (hops : List WalkHop) → 0 < length hops → 0 < turns_over n hops
some_over n [] some = absurd (omega arith)
some_over n (last ∷ []) some = omega arith
some_over n (hop ∷ next ∷ later) some =
    let one =
    one_at_least
    (is_one (owner_in n hop.ia hop.ingress) (owner_in n hop.ia hop.egress)) in
    omega arith

some_left : (n : Network) (arrival : Arrival) (hops : List WalkHop) → 0 < length hops
    → 0 < turns_left n arrival hops
some_left n FromHost hops some = omega arith
some_left n Inside hops some = omega arith
some_left n (Link interface) hops some = some_over n hops some

pub turns_before : (n : Network) (source destination : ℕ) (payload : List ℕ)
    (pieces : List PieceValue) (left : ℕ) (packet : Packet)
    → OnPath n source destination payload pieces left packet → 0 < left
turns_before n source destination payload pieces left packet s =
    let some = some_left n s.arrival (to_come s.came_in_by s.spot)
    (some_to_come s.came_in_by s.spot s.entry s.there) in
    let count = s.count in
    omega arith

-- ---- and a delivered one none

stays : (n : Network) (now source destination : ℕ) (payload : List ℕ) (pieces : List PieceValue)
    → turned_packet n now (arrived_with source destination payload pieces)
    ≡ arrived_with source destination payload pieces
unfolding turn_of
stays n now source destination payload pieces = refl

stays_on : (n : Network) (moments : List ℕ) (source destination : ℕ) (payload : List ℕ)
    (pieces : List PieceValue) → after n (arrived_with source destination payload pieces) moments
    ≡ arrived_with source destination payload pieces
stays_on n [] source destination payload pieces = refl
stays_on n (now ∷ later) source destination payload pieces =
    ap (λ (p : Packet). after n p later) (stays n now source destination payload pieces)
    ∙ stays_on n later source destination payload pieces

-- ---- turn by turn

less_by : (n : Network) (source destination : ℕ) (payload : List ℕ) (pieces : List PieceValue)
    (one other : ℕ) (packet : Packet) → one ≡ other
    → OnPath n source destination payload pieces one packet
    → OnPath n source destination payload pieces other packet
less_by n source destination payload pieces one other packet same s =
    subst (λ k. OnPath n source destination payload pieces k packet) same s

module _ (n : Network) (source destination : ℕ) (payload : List ℕ) (pieces : List PieceValue) where
  stands_by : (moments : List ℕ) (left : ℕ) (packet : Packet)
      → AllByRecursion (λ now. MayForward n now source destination pieces) moments
      → OnPath n source destination payload pieces left packet → length moments < left
      → OnPath n source destination payload pieces (left - length moments)
      (after n packet moments)
  stands_by [] left packet lets s more =
      less_by n source destination payload pieces left (left - 0) packet (omega arith) s
  stands_by (now ∷ later) left packet lets s more =
      elim (one_turn n now source destination payload pieces left packet lets.0 s) [
        | inl goes ↦ (
            let one = goes.one in
            let rest = stands_by later goes.less (turned_packet n now packet) lets.1 goes.stands
            (omega arith) in
            less_by n source destination payload pieces (goes.less - length later)
            (left - length (now ∷ later)) (after n (turned_packet n now packet) later) (omega arith) rest)
        | inr arrives ↦ absurd (let one = arrives.one in omega arith)
      ]

  delivered_by : (moments : List ℕ) (left : ℕ) (packet : Packet)
      → AllByRecursion (λ now. MayForward n now source destination pieces) moments
      → OnPath n source destination payload pieces left packet → left ≤ length moments
      → after n packet moments ≡ arrived_with source destination payload pieces
  delivered_by [] left packet lets s enough =
      absurd (
      let some = turns_before n source destination payload pieces left packet s in
      omega arith)
  delivered_by (now ∷ later) left packet lets s enough =
      elim (one_turn n now source destination payload pieces left packet lets.0 s) [
        | inl goes ↦ (
            let one = goes.one in
            delivered_by later goes.less (turned_packet n now packet) lets.1 goes.stands (omega arith))
        | inr arrives ↦
            ap (λ (p : Packet). after n p later) arrives.there
            ∙ stays_on n later source destination payload pieces
      ]

pub stands_after : (n : Network) (source destination : ℕ) (payload : List ℕ)
    (pieces : List PieceValue) (left : ℕ) (packet : Packet) (moments : List ℕ)
    → All (λ now. MayForward n now source destination pieces) moments
    → OnPath n source destination payload pieces left packet → length moments < left
    → OnPath n source destination payload pieces (left - length moments) (after n packet moments)
stands_after n source destination payload pieces left packet moments lets s more =
    stands_by n source destination payload pieces moments left packet
    (recursion_from_All (λ now. MayForward n now source destination pieces) moments lets) s more

pub delivered_after : (n : Network) (source destination : ℕ) (payload : List ℕ)
    (pieces : List PieceValue) (left : ℕ) (packet : Packet) (moments : List ℕ)
    → All (λ now. MayForward n now source destination pieces) moments
    → OnPath n source destination payload pieces left packet → left ≤ length moments
    → after n packet moments ≡ arrived_with source destination payload pieces
delivered_after n source destination payload pieces left packet moments lets s enough =
    delivered_by n source destination payload pieces moments left packet
    (recursion_from_All (λ now. MayForward n now source destination pieces) moments lets) s enough
