-- How many turns a walk takes at most.
use Rattle.std.proofs.Common.{ℕ, ◌*◌, ◌≤◌, Bool, true, false, if◌then◌else◌, List, [], ◌∷◌, length, drop, arith, length-drop}
use Rattle.scion_topology.specs.Network.{Network}
use Rattle.scion_topology.specs.Topology.{owner_in}
use Rattle.path_verifier.specs.Piece.{PieceValue}
use Rattle.path_verifier.specs.Walk.{walk_of}
use Rattle.path_verifier.specs.Header.{total_hops}
use Rattle.path_verifier.specs.Accepted.{MakesPath}
use Rattle.policy_expr.specs.declared.hop.WalkHop.{WalkHop}
use Rattle.forwarding.specs.Journey.{is_one, turns_over, turns_for}
use Rattle.path_verifier.proofs.Lengths.{walk_is_short, walk_is_long}

one_or_two : (b : Bool) → (if b then 1 else 2) ≤ 2
one_or_two true = omega arith
one_or_two false = omega arith

over_few : (n : Network) (hops : List WalkHop) → turns_over n hops ≤ 2 * length hops
over_few n [] = omega arith
over_few n (last ∷ []) = omega arith
over_few n (hop ∷ next ∷ later) =
    let one = one_or_two (is_one (owner_in n hop.ia hop.ingress) (owner_in n hop.ia hop.egress)) in
    let rest = over_few n (next ∷ later) in
    omega arith

-- two turns for each hop field are enough
pub turns_are_few : (n : Network) (pieces : List PieceValue) (source destination moment : ℕ)
    → MakesPath pieces source destination moment
    → turns_for n (walk_of pieces) ≤ 2 * total_hops pieces
turns_are_few n pieces source destination moment path =
    let some = walk_is_long pieces source destination moment path in
    let rest = over_few n (drop 1 (walk_of pieces)) in
    let short = walk_is_short pieces in
    let count = length-drop 1 (walk_of pieces) in
    omega arith
