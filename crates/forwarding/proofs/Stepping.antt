-- Where a router step leads from a spot: to the next entry, onto the next piece, or to the end.
use Rattle.std.proofs.Common.{◌≡◌, ◌≢◌, ℕ, ◌+◌, ◌-◌, ◌<◌, Bool, true, false, not, ◌==◌, if◌then◌else◌, List, [], ◌∷◌, ◌++◌, length, map, Result, Ok, Some, refl, sym, ap, ◌∙◌, subst, arith, append_assoc, length-append}
use Rattle.std.specs.List.{flat_map}
use Rattle.std.proofs.lemmas.Bool.{eq-eqb, ne_eqb}
use Rattle.std.proofs.lemmas.List.{map-append}
use Rattle.std.proofs.lemmas.List.Sums.{sum_by_push}
use Rattle.scion_topology.specs.declared.entry.IfEntry.{IfEntry}
use Rattle.scion_topology.specs.View.{View, entry_of}
use Rattle.path_segment.specs.declared.entry.Entry.{Entry}
use Rattle.path_segment.specs.Chain.{beta_of}
use Rattle.path_header.specs.declared.fields.InfoField.{InfoField}
use Rattle.path_header.specs.declared.fields.HopField.{HopField}
use Rattle.path_header.specs.Value.{HeaderValue, lens_from}
use Rattle.path_verifier.specs.Piece.{PieceValue}
use Rattle.path_verifier.specs.Header.{info_with, fields_of, len_of, total_hops}
use Rattle.path_verifier.specs.Header as path
use Rattle.router_step.specs.declared.arrival.Arrival.{Arrival}
use Rattle.router_step.specs.declared.outcome.Outcome.{Outcome}
use Rattle.router_step.specs.declared.outcome.Outcome.TheVariants.{ToLink, ToRouter, Deliver}
use Rattle.router_step.specs.declared.fault.Refusal.{Refusal}
use Rattle.router_step.specs.Place.{current_info, current_hop, way_out, moved_on, header_on_leaving}
use Rattle.router_step.specs.Checks.{destination_fits, kinds_fit}
use Rattle.router_step.specs.Step.{step_of}
use Rattle.forwarding.specs.PathPosition.{PathPosition, beta_at, info_left, header_with, header_there, header_coming, next_position, out_by}
use Rattle.forwarding.specs.OnPath.{header_on}
use Rattle.forwarding.proofs.Reading.{info_of-header_with, hop_of-header_with}
use Rattle.forwarding.proofs.Betas.{first_place_is}
use Rattle.router_step.specs.Forward.{MayLeave, goes}
use Rattle.router_step.proofs.Computed.{no_switch, delivered, went_on}
use Rattle.forwarding.proofs.AtSpot.{IsSpot, Comes, IsOwn, admitted_there, not_last, last, stays, not_moved, leaving}

-- the packet may leave the AS of the entry by the interface that the piece says
pub record Opens (view : View) (arrival : Arrival) (has_switched : Bool) (piece : PieceValue)
    (entry : Entry) (out : IfEntry) : Type 0 where
  pub known : entry_of view (out_by piece entry) ≡ Some out
  pub kinds : kinds_fit view arrival has_switched out.kind ≡ true
  pub up : out.up ≡ true

way_there : (spot : PathPosition) (seg_id : ℕ) (entry : Entry) → IsSpot spot entry
    → way_out (current_info (header_with spot seg_id))
    (current_hop (header_with spot seg_id)) ≡ out_by spot.piece entry
way_there spot seg_id entry is =
    ap (λ (i : InfoField). way_out i (current_hop (header_with spot seg_id)))
    (info_of-header_with spot seg_id)
    ∙ ap (λ (h : HopField). way_out (info_with spot.piece seg_id) h)
    (hop_of-header_with spot seg_id entry is.there)

pub may_leave : (view : View) (arrival : Arrival) (has_switched : Bool) (spot : PathPosition)
    (entry : Entry) (out : IfEntry) → IsSpot spot entry
    → Opens view arrival has_switched spot.piece entry out
    → MayLeave view arrival has_switched (header_there spot) out
may_leave view arrival has_switched spot entry out is opens = record {
  known = ap (entry_of view) (way_there spot (beta_at spot.piece spot.reached) entry is)
      ∙ opens.known;
  kinds = opens.kinds;
  up = opens.up;
}

-- what a step answers that leads from a spot on
abbrev pub onward_by : View → IfEntry → PathPosition → Entry → Outcome × HeaderValue
onward_by view out spot entry =
    if not (out.router == view.router) then (ToRouter out.router, header_there spot) else
    (ToLink (out_by spot.piece entry), header_coming (next_position spot))

pub answer : (view : View) (out : IfEntry) (spot : PathPosition) (entry : Entry) → IsSpot spot entry
    → spot.reached + 1 < len_of spot.piece
    → (other : Bool) → not (out.router == view.router) ≡ other
    → (
      goes view out (header_there spot),
      header_on_leaving (goes view out (header_there spot))
          (header_there spot),
    ) ≡ onward_by view out spot entry
answer view out spot entry is more true e = rw e refl
answer view out spot entry is more false e =
    let way = way_there spot (beta_at spot.piece spot.reached) entry is in
    let left =
    leaving spot entry
    (way_out (current_info (header_there spot)) (current_hop (header_there spot))) is more in
    rw e (ap (λ (h : HeaderValue).
    (ToLink (way_out (current_info (header_there spot)) (current_hop (header_there spot))), h)) left
    ∙ ap (λ n. (ToLink n, header_coming (next_position spot))) way)

abbrev pub done : Outcome × HeaderValue → Result (Outcome × HeaderValue) Refusal
done x = Ok x

pub destination_elsewhere : (view : View) (destination : ℕ) → destination ≢ view.ia
    → destination_fits view destination false ≡ true
destination_elsewhere view destination other = rw (ne_eqb destination view.ia other) refl

-- on its piece a packet goes on to the next entry
pub goes_on : (view : View) (now : ℕ) (arrival : Arrival) (source destination : ℕ) (spot : PathPosition)
    (entry : Entry) (out : IfEntry) → IsSpot spot entry → Comes view arrival source spot entry
    → IsOwn view now spot.piece spot.reached entry → destination ≢ view.ia
    → spot.reached + 1 < len_of spot.piece → Opens view arrival false spot.piece entry out
    → step_of view now arrival source destination (header_on arrival spot) ≡ Ok
    (onward_by view out spot entry)
goes_on view now arrival source destination spot entry out is comes own other more opens =
    let same = not_moved (header_there spot) in
    let may : MayLeave view arrival false (moved_on false (header_there spot)) out =
    subst (λ (h : HeaderValue). MayLeave view arrival false h out) (sym same)
    (may_leave view arrival false spot entry out is opens) in
    let b = beta_at spot.piece spot.reached in
    let further : spot.reached + 1 < len_of spot.piece + total_hops spot.later = omega arith in
    went_on view now arrival source destination (header_on arrival spot)
    (header_there spot) false out
    (admitted_there view now arrival source spot entry is comes own) (not_last spot b further)
    (destination_elsewhere view destination other)
    (no_switch view now arrival (header_there spot) (stays spot b entry is more)) may
    ∙ ap (λ (h : HeaderValue). done (goes view out h, header_on_leaving (goes view out h) h)) same
    ∙ ap done (answer view out spot entry is more (not (out.router == view.router)) refl)

-- at its end it is delivered
pub arrives : (view : View) (now : ℕ) (arrival : Arrival) (source destination : ℕ) (spot : PathPosition)
    (entry : Entry) → IsSpot spot entry → Comes view arrival source spot entry
    → IsOwn view now spot.piece spot.reached entry → destination ≡ view.ia
    → spot.reached + 1 ≡ len_of spot.piece → spot.later ≡ []
    → step_of view now arrival source destination (header_on arrival spot) ≡ Ok
    (Deliver, header_there spot)
arrives view now arrival source destination spot entry is comes own here at_end none =
    delivered view now arrival source destination (header_on arrival spot) (header_there spot)
    (admitted_there view now arrival source spot entry is comes own)
    (last spot (beta_at spot.piece spot.reached) at_end none)
    (rw (eq-eqb destination view.ia here) refl)

-- ---- onto the next piece

pub is_beyond : (past later : List PieceValue) (piece next : PieceValue)
    → (past ++ piece ∷ []) ++ next ∷ later ≡ past ++ piece ∷ next ∷ later
is_beyond past later piece next = append_assoc past (piece ∷ []) (next ∷ later)

pub first_info : (piece : PieceValue) → path.info_of piece ≡ info_with piece (beta_at piece 0)
first_info piece = ap (λ n. info_with piece (beta_of piece.segment n)) (sym (first_place_is piece))

last_info : (piece : PieceValue) (i : ℕ) → i + 1 ≡ len_of piece
    → info_with piece (beta_at piece i) ≡ info_left piece
last_info piece i at_end =
    let same : i ≡ len_of piece - 1 = omega arith in
    ap (λ n. info_with piece (beta_at piece n)) same

pub switch_header : (past later : List PieceValue) (piece next : PieceValue) (i : ℕ)
    → i + 1 ≡ len_of piece
    → moved_on true
    (header_there (record { past = past; piece = piece; later = next ∷ later; reached = i }))
    ≡ header_there
    (record { past = past ++ piece ∷ []; piece = next; later = later; reached = 0 })
unfolding header_with
switch_header past later piece next i at_end =
    let pieces = is_beyond past later piece next in
    let inf : length past + 1 ≡ length (past ++ piece ∷ []) =
    sym (length-append past (piece ∷ [])) in
    let count = sum_by_push len_of past piece in
    let hf : total_hops past + i + 1 ≡ total_hops (past ++ piece ∷ []) + 0 = omega arith in
    let fronts : map info_left (past ++ piece ∷ []) ++
    (info_with next (beta_at next 0) ∷ map path.info_of later) ≡ map info_left past ++
    (info_left piece ∷ info_with next (beta_at next 0) ∷ map path.info_of later) =
    ap (λ (xs : List InfoField). xs ++ (info_with next (beta_at next 0) ∷ map path.info_of later))
    (map-append info_left past (piece ∷ []))
    ∙ append_assoc (map info_left past) (info_left piece ∷ [])
    (info_with next (beta_at next 0) ∷ map path.info_of later) in
    let infos : map info_left past ++
    (info_with piece (beta_at piece i) ∷ path.info_of next ∷ map path.info_of later)
    ≡ map info_left (past ++ piece ∷ []) ++
    (info_with next (beta_at next 0) ∷ map path.info_of later) =
    ap (λ (x : InfoField). map info_left past ++ (x ∷ path.info_of next ∷ map path.info_of later))
    (last_info piece i at_end)
    ∙ ap (λ (x : InfoField). map info_left past ++ (info_left piece ∷ x ∷ map path.info_of later))
    (first_info next)
    ∙ sym fronts in
    let old : HeaderValue =
    moved_on true
    (header_there (record { past = past; piece = piece; later = next ∷ later; reached = i })) in
    ap (λ n. record old { curr_inf = n }) inf
    ∙ ap (λ n. record old { curr_inf = length (past ++ piece ∷ []); curr_hf = n }) hf
    ∙ ap (λ (xs : List InfoField). record old {
      curr_inf = length (past ++ piece ∷ []);
      curr_hf =
          total_hops (past ++ piece ∷ []) + 0;
      infos = xs;
    }) infos
    ∙ ap (λ (ps : List PieceValue). record old {
      curr_inf = length (past ++ piece ∷ []);
      curr_hf =
          total_hops (past ++ piece ∷ []) + 0;
      infos =
          map info_left (past ++ piece ∷ []) ++
          (info_with next (beta_at next 0) ∷ map path.info_of later);
      lens =
          lens_from (map len_of ps);
      hops = flat_map fields_of ps;
    }) (sym pieces)
