-- A path on which every hop is open and live, and what is used of one at each turn.
use Rattle.std.proofs.Common.{◌≡◌, ◌≢◌, ℕ, ◌+◌, ◌-◌, ◌<◌, ◌≤◌, List, [], ◌∷◌, ◌++◌, length, drop, get_or, Result, Ok, Some, refl, sym, ◌∙◌, arith}
use Rattle.std.specs.Prelude.{slice_get}
use Rattle.std.proofs.lemmas.Bool.{eq-eqb, ne_eqb}
use Rattle.std.proofs.lemmas.Option.{slice_get-get_or, same_Some}
use Rattle.hop_mac.specs.Lifetime.{IsLive}
use Rattle.scion_topology.specs.declared.fault.TopologyFault.{TopologyFault}
use Rattle.scion_topology.specs.declared.network.AsEntry.{AsEntry}
use Rattle.scion_topology.specs.Network.{Network, as_named}
use Rattle.scion_topology.specs.Topology.{IsNetwork, known_as, owner_in}
use Rattle.path_segment.specs.declared.entry.Entry.{Entry}
use Rattle.path_verifier.specs.Piece.{PieceValue, HasRange, kind_of, travelled_entries}
use Rattle.path_verifier.specs.Header.{len_of}
use Rattle.path_verifier.specs.Walk.{hops_of, walk_of, entered_by, left_by}
use Rattle.policy_expr.specs.declared.hop.WalkHop.{WalkHop}
use Rattle.forwarding.specs.PathPosition.{PathPosition, pieces_at}
use Rattle.forwarding.specs.Forwardable.{IsForwardable}
use Rattle.std.specs.List.{AllByRecursion}
use Rattle.forwarding.specs.Journey.{to_come, way_beyond, walk_beyond, turns_through, turns_over}
use Rattle.forwarding.proofs.AtSpot.{IsSpot}
use Rattle.forwarding.proofs.Places.{IsLong, long_of}
use Rattle.forwarding.proofs.Routers.{MayFollow}
use Rattle.forwarding.proofs.Coming.{hops_from}

-- a path on which every hop is open and live now, between its two ends
pub record IsRoute (n : Network) (now source destination : ℕ)
    (pieces : List PieceValue) : Type 0 where
  pub network : IsNetwork n
  pub few : length (walk_of pieces) ≤ 64
  pub three : length pieces ≤ 3
  pub all_ranges : AllByRecursion HasRange pieces
  pub ranges : (past later : List PieceValue) (piece : PieceValue) → past ++ piece ∷ later ≡ pieces
      → HasRange piece
  pub opens : (past later : List PieceValue) (piece : PieceValue) → past ++ piece ∷ later ≡ pieces
      → IsForwardable n piece
  pub live : (past later : List PieceValue) (piece : PieceValue) (i : ℕ) (entry : Entry)
      → past ++ piece ∷ later ≡ pieces → slice_get (travelled_entries piece) i ≡ Some entry
      → IsLive piece.segment.timestamp entry.exp_time now
  pub meet : (past later : List PieceValue) (piece next : PieceValue) (last first : Entry)
      → past ++ piece ∷ next ∷ later ≡ pieces
      → slice_get (travelled_entries piece) (len_of piece - 1) ≡ Some last
      → slice_get (travelled_entries next) 0 ≡ Some first → last.ia ≡ first.ia
  pub follow : (past later : List PieceValue) (piece next : PieceValue)
      → past ++ piece ∷ next ∷ later ≡ pieces → MayFollow (kind_of piece) (kind_of next)
  pub starts : (hop : WalkHop) (rest : List WalkHop) → hop ∷ rest ≡ walk_of pieces → source ≡ hop.ia
  pub left_source : (front rest : List WalkHop) (hop : WalkHop)
      → front ++ hop ∷ rest ≡ walk_of pieces → 0 < length front → source ≢ hop.ia
  pub finishes : (front : List WalkHop) (hop : WalkHop) → front ++ hop ∷ [] ≡ walk_of pieces
      → destination ≡ hop.ia
  pub not_there : (front rest : List WalkHop) (hop : WalkHop) → front ++ hop ∷ rest ≡ walk_of pieces
      → 0 < length rest → destination ≢ hop.ia

-- ---- small facts

pub some_front : (came_in_by w : ℕ) (hop : WalkHop) (xs back : List WalkHop)
    → 0 < length (entered_by came_in_by (left_by w (hop ∷ xs)) ++ back)
some_front came_in_by w hop [] back = omega arith
some_front came_in_by w hop (x ∷ xs) back = omega arith

pub some_to_come : (came_in_by : ℕ) (spot : PathPosition) (entry : Entry)
    → slice_get (travelled_entries spot.piece) spot.reached ≡ Some entry → 0 < length (to_come came_in_by spot)
some_to_come came_in_by spot entry there =
    rw (hops_from spot.piece spot.reached entry there)
    (some_front came_in_by (way_beyond spot.later) _ (drop (spot.reached + 1) (hops_of spot.piece))
    (walk_beyond spot.later))

pub over_more : (n : Network) (hop : WalkHop) (rest : List WalkHop) → 0 < length rest
    → turns_over n (hop ∷ rest) ≡ turns_through n hop + turns_over n rest
over_more n hop [] some = absurd (omega arith)
over_more n hop (next ∷ later) some = refl

pub same_owner : (a b : ℕ) (r : Result ℕ TopologyFault) → r ≡ Ok a → r ≡ Ok b → a ≡ b
same_owner a b r x y = let z = sym x ∙ y in cc

pub same_as_entry : (n : Network) (ia : ℕ) (a b : AsEntry) → as_named n.ases ia ≡ Some a
    → as_named n.ases ia ≡ Some b → a ≡ b
same_as_entry n ia a b x y = same_Some a b (sym x ∙ y)

pub is_known : (n : Network) (ia : ℕ) (one : AsEntry) → as_named n.ases ia ≡ Some one
    → known_as n ia ≡ Ok one
is_known n ia one named = rw named refl

pub entry_at : (piece : PieceValue) (i : ℕ) (d : Entry) → i < len_of piece
    → (entry : Entry) × (slice_get (travelled_entries piece) i ≡ Some entry)
entry_at piece i d within =
    (get_or (travelled_entries piece) i d, slice_get-get_or (travelled_entries piece) i d within)

pub through_one : (n : Network) (hop : WalkHop) (router near : ℕ)
    → owner_in n hop.ia hop.ingress ≡ Ok router → owner_in n hop.ia hop.egress ≡ Ok near
    → near ≡ router → turns_through n hop ≡ 1
through_one n hop router near comes goes same = rw (comes, goes, eq-eqb router near (sym same)) refl

pub through_two : (n : Network) (hop : WalkHop) (router near : ℕ)
    → owner_in n hop.ia hop.ingress ≡ Ok router → owner_in n hop.ia hop.egress ≡ Ok near
    → near ≢ router → turns_through n hop ≡ 2
through_two n hop router near comes goes differs =
    rw (comes, goes, ne_eqb router near (λ same. differs (sym same))) refl

pub long_each : (pieces : List PieceValue) → AllByRecursion HasRange pieces
    → AllByRecursion IsLong pieces
long_each [] ranges = tt
long_each (piece ∷ pieces) ranges = (long_of piece ranges.0, long_each pieces ranges.1)

pub past_are_long : (past later : List PieceValue) (piece : PieceValue)
    → AllByRecursion HasRange (past ++ piece ∷ later) → AllByRecursion IsLong past
past_are_long [] later piece ranges = tt
past_are_long (one ∷ past) later piece ranges =
    (long_of one ranges.0, past_are_long past later piece ranges.1)

pub range_here : (past later : List PieceValue) (piece : PieceValue)
    → AllByRecursion HasRange (past ++ piece ∷ later) → HasRange piece
range_here [] later piece ranges = ranges.0
range_here (one ∷ past) later piece ranges = range_here past later piece ranges.1

pub later_are_long : (past later : List PieceValue) (piece : PieceValue)
    → AllByRecursion HasRange (past ++ piece ∷ later) → AllByRecursion IsLong later
later_are_long [] later piece ranges = long_each later ranges.1
later_are_long (one ∷ past) later piece ranges = later_are_long past later piece ranges.1

pub spot_of : (spot : PathPosition) (entry : Entry) → length (pieces_at spot) ≤ 3
    → AllByRecursion HasRange (pieces_at spot)
    → slice_get (travelled_entries spot.piece) spot.reached ≡ Some entry → IsSpot spot entry
spot_of spot entry three ranges there = record {
  three = three;
  past_long = past_are_long spot.past spot.later spot.piece ranges;
  ranged = range_here spot.past spot.later spot.piece ranges;
  later_long = later_are_long spot.past spot.later spot.piece ranges;
  there = there;
}
