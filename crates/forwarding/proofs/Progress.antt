-- One turn brings a packet that stands on an open path one turn nearer to its end.
use Rattle.std.proofs.Common.{◌≡◌, ◌≢◌, ℕ, ◌+◌, ◌<◌, ◌≤◌, List, [], ◌∷◌, ◌++◌, length, drop, Some, refl, sym, ap, ◌∙◌, arith, inl, inr, append_assoc, length-append}
use Rattle.std.specs.Prelude.{slice_get}
use Rattle.std.proofs.lemmas.Bool.{cases_eq, lt-ltb}
use Rattle.scion_topology.specs.View.{View}
use Rattle.scion_topology.specs.Network.{Network}
use Rattle.path_segment.specs.declared.entry.Entry.{Entry}
use Rattle.path_verifier.specs.Piece.{PieceValue, travelled_entries}
use Rattle.path_verifier.specs.Header.{len_of}
use Rattle.path_verifier.specs.Walk.{walk_of}
use Rattle.policy_expr.specs.declared.hop.WalkHop.{WalkHop}
use Rattle.router_step.specs.declared.arrival.Arrival.TheVariants.{Inside, Link}
use Rattle.forwarding.specs.PathPosition.{PathPosition, pieces_at, next_position, in_by, out_by}
use Rattle.forwarding.specs.Forwardable.{IsLinked}
use Rattle.forwarding.specs.declared.location.RouterStop.{RouterStop}
use Rattle.forwarding.specs.Frame.{HasFrame}
use Rattle.forwarding.specs.Turn.{Packet, with_passed_hop, turned_packet}
use Rattle.forwarding.specs.OnPath.{at_spot, ComesNearer}
use Rattle.forwarding.specs.Journey.{to_come, turns_over}
use Rattle.forwarding.proofs.Stepping.{onward_by}
use Rattle.forwarding.proofs.Turning.{placed, over, inside}
use Rattle.forwarding.proofs.Coming.{cross}

pub noted_is : (passed : List WalkHop) (hop : WalkHop) → length passed < 64
    → with_passed_hop passed hop ≡ passed ++ hop ∷ []
noted_is passed hop few = rw (lt-ltb (length passed) 64 few) refl

pub short : (passed : List WalkHop) (hop : WalkHop) (later walk : List WalkHop)
    → passed ++ hop ∷ later ≡ walk → length walk ≤ 64 → length passed < 64
short passed hop later walk is few = let count =
    ap (λ (w : List WalkHop). length w) is in let parts =
    length-append passed (hop ∷ later) in omega arith

-- where a turn leads over an open way, or to the router that owns it
pub onward : (n : Network) (now source destination : ℕ) (payload : List ℕ)
    (pieces : List PieceValue)
    (left : ℕ) (packet : Packet) (stop : RouterStop) (passed : List WalkHop) (view : View) (spot : PathPosition)
    (entry next : Entry) (goes : IsLinked n spot.piece entry next)
    → turned_packet n now packet
    ≡ placed n source destination payload stop passed (onward_by view goes.near spot entry)
    → stop.ia ≡ entry.ia → HasFrame source destination pieces
    → slice_get (travelled_entries spot.piece) spot.reached ≡ Some entry
    → slice_get (travelled_entries spot.piece) (spot.reached + 1) ≡ Some next
    → spot.reached + 1 < len_of spot.piece → pieces_at spot ≡ pieces → length (walk_of pieces) ≤ 64
    → passed ++ to_come stop.came_in_by spot ≡ walk_of pieces
    → (goes.near.router ≡ view.router
    → left ≡ 1 + turns_over n (to_come (in_by spot.piece next) (next_position spot)))
    → (goes.near.router ≢ view.router
    → left ≡ 2 + turns_over n (to_come (in_by spot.piece next) (next_position spot)))
    → ComesNearer n now source destination payload pieces left packet
onward n now source destination payload pieces left packet stop passed view spot entry next goes
    steps here frame there further more whole few walk at_once later =
    let ahead = to_come (in_by spot.piece next) (next_position spot) in
    let hop : WalkHop =
    record { ia = entry.ia; ingress = stop.came_in_by; egress = out_by spot.piece entry } in
    let split : to_come stop.came_in_by spot ≡ hop ∷ ahead =
    cross stop.came_in_by spot entry next there further in
    let all : passed ++ hop ∷ ahead ≡ walk_of pieces =
    ap (λ (w : List WalkHop). passed ++ w) (sym split) ∙ walk in
    let notes = noted_is passed hop (short passed hop ahead (walk_of pieces) all few) in
    elim (cases_eq goes.near.router view.router) [
      | inl same ↦ record {
        less = turns_over n ahead;
        one = at_once same;
        stands = record {
          spot = next_position spot;
          entry = next;
          arrival = Link (in_by spot.piece next);
          router = goes.far.router;
          came_in_by = in_by spot.piece next;
          passed = passed ++ hop ∷ [];
          is =
              steps ∙ over n source destination payload stop passed view spot entry next goes here
              same
              ∙ ap (λ (p : List WalkHop). at_spot source destination payload (next_position spot) next
              (Link (in_by spot.piece next)) goes.far.router (in_by spot.piece next) p) notes;
          frame = frame;
          whole = whole;
          there = further;
          placed = (let parts = length-append passed (hop ∷ []) in let at : 0 < spot.reached + 1 =
              omega arith in let some : 0 < length (passed ++ hop ∷ []) =
              omega arith in (at, (some, (refl, (refl, goes.far_owner)))));
          walk = append_assoc passed (hop ∷ []) ahead ∙ all;
          count = refl;
        };
      }
      | inr other ↦ record {
        less = 1 + turns_over n ahead;
        one = (let two = later other in omega arith);
        stands = record {
          spot = spot;
          entry = entry;
          arrival = Inside;
          router = goes.near.router;
          came_in_by = stop.came_in_by;
          passed = passed;
          is = steps
              ∙ inside n source destination payload stop passed view spot entry next goes here
              other;
          frame = frame;
          whole = whole;
          there = there;
          placed = (more, goes.near_owner);
          walk = walk;
          count = ap (λ (w : List WalkHop). 1 + turns_over n (drop 1 w)) (sym split);
        };
      }
    ]
