-- A router step on a packet that stands at a spot of its path.
use Rattle.std.proofs.Common.{◌≡◌, ℕ, ◌+◌, ◌<◌, ◌≤◌, true, false, not, List, [], ◌∷◌, ◌++◌, length, map, Some, refl, sym, ap, ◌∙◌, arith}
use Rattle.std.specs.Prelude.{slice_get}
use Rattle.std.specs.List.{flat_map, AllByRecursion}
use Rattle.std.proofs.lemmas.Bool.{eq-eqb, and_from}
use Rattle.std.proofs.lemmas.Bool.Decides.{nat_tests}
use Rattle.std.proofs.lemmas.List.Sums.{sum_by-append, sum_by-cons}
use Rattle.std.proofs.lemmas.Option.{slice_get_within}
use Rattle.scion_topology.specs.View.{View}
use Rattle.path_segment.specs.declared.entry.Entry.{Entry}
use Rattle.path_header.specs.declared.fields.InfoField.{InfoField}
use Rattle.path_header.specs.declared.fields.HopField.{HopField}
use Rattle.path_header.specs.Value.{HeaderValue, lens_from, segment_at}
use Rattle.path_verifier.specs.Piece.{PieceValue, HasRange, travelled_entries}
use Rattle.path_verifier.specs.Header.{info_with, field_of, fields_of, len_of, total_hops}
use Rattle.router_step.specs.declared.arrival.Arrival.{Arrival}
use Rattle.router_step.specs.declared.arrival.Arrival.TheVariants.{FromHost, Inside, Link}
use Rattle.router_step.specs.declared.outcome.Outcome.TheVariants.{ToLink}
use Rattle.router_step.specs.Place.{current_info, current_hop, with_seg_id, seg_id_on_arrival, seg_id_on_leaving, header_on_arrival, moved_on, header_on_leaving}
use Rattle.router_step.specs.Checks.{is_start_right, indices_fit, way_in_fits, is_hop_live, is_mac_right, source_fits, is_last, ends_segment}
use Rattle.forwarding.specs.PathPosition.{PathPosition, pieces_at, beta_at, beta_before, header_with, header_there, header_coming, next_position}
use Rattle.forwarding.specs.OnPath.{header_on}
use Rattle.forwarding.proofs.Reading.{info_of-header_with, with_seg_id-header_with, hop_of-header_with, length_fields}
use Rattle.forwarding.proofs.Places.{IsLong, long_of, segment_of_place, no_single}
use Rattle.forwarding.proofs.Betas.{settled, onward}
use Rattle.router_step.specs.Forward.{IsAdmitted}

-- the spot is one of a path of at most three pieces, and the entry is the one at which it stands
pub record IsSpot (spot : PathPosition) (entry : Entry) : Type 0 where
  pub three : length (pieces_at spot) ≤ 3
  pub past_long : AllByRecursion IsLong spot.past
  pub ranged : HasRange spot.piece
  pub later_long : AllByRecursion IsLong spot.later
  pub there : slice_get (travelled_entries spot.piece) spot.reached ≡ Some entry

both_long : (past later : List PieceValue) (piece : PieceValue) → AllByRecursion IsLong past
    → IsLong piece → AllByRecursion IsLong later → AllByRecursion IsLong (past ++ piece ∷ later)
both_long [] later piece a b c = (b, c)
both_long (one ∷ past) later piece a b c = (a.0, both_long past later piece a.1 b c)

pub all_long : (spot : PathPosition) (entry : Entry) → IsSpot spot entry
    → AllByRecursion IsLong (pieces_at spot)
all_long spot entry is =
    both_long spot.past spot.later spot.piece is.past_long
    (long_of spot.piece is.ranged) is.later_long

pub within_piece : (spot : PathPosition) (entry : Entry) → IsSpot spot entry
    → spot.reached < len_of spot.piece
within_piece spot entry is = slice_get_within (travelled_entries spot.piece) spot.reached entry is.there

-- ---- the header after the arrival

arrived_with : (arrival : Arrival) (spot : PathPosition) (seg_id : ℕ) (entry : Entry)
    → slice_get (travelled_entries spot.piece) spot.reached ≡ Some entry
    → header_on_arrival arrival (header_with spot seg_id) ≡ header_with spot
    (seg_id_on_arrival arrival (info_with spot.piece seg_id) (field_of entry))
arrived_with arrival spot seg_id entry there =
    ap (λ (i : InfoField). with_seg_id (header_with spot seg_id)
    (seg_id_on_arrival arrival i (current_hop (header_with spot seg_id))))
    (info_of-header_with spot seg_id)
    ∙ ap (λ (h : HopField). with_seg_id (header_with spot seg_id)
    (seg_id_on_arrival arrival (info_with spot.piece seg_id) h))
    (hop_of-header_with spot seg_id entry there)
    ∙ with_seg_id-header_with spot seg_id _

pub arrived_there : (arrival : Arrival) (spot : PathPosition) (entry : Entry) → IsSpot spot entry
    → header_on_arrival arrival (header_on arrival spot) ≡ header_there spot
arrived_there FromHost spot entry is =
    arrived_with FromHost spot (beta_at spot.piece spot.reached) entry is.there
arrived_there Inside spot entry is =
    arrived_with Inside spot (beta_at spot.piece spot.reached) entry is.there
arrived_there (Link interface) spot entry is =
    arrived_with (Link interface) spot (beta_before spot.piece spot.reached) entry is.there
    ∙ ap (header_with spot) (settled spot.piece spot.reached interface entry is.ranged is.there)

-- ---- the checks on arrival

indices_there : (arrival : Arrival) (spot : PathPosition) (seg_id : ℕ) (entry : Entry) → IsSpot spot entry
    → is_start_right arrival (total_hops spot.past + spot.reached) ≡ true
    → indices_fit arrival (header_with spot seg_id) ≡ true
unfolding header_with
indices_there arrival spot seg_id entry is start =
    let segment =
    segment_of_place spot.past spot.later spot.piece spot.reached is.three is.past_long
    (within_piece spot entry is) in
    and_from _ _ (eq-eqb _ _ (sym segment))
    (and_from _ _ (no_single (pieces_at spot) (all_long spot entry is)) start)

pub indices_on : (arrival : Arrival) (spot : PathPosition) (entry : Entry) → IsSpot spot entry
    → is_start_right arrival (total_hops spot.past + spot.reached) ≡ true
    → indices_fit arrival (header_on arrival spot) ≡ true
indices_on FromHost spot entry is start =
    indices_there FromHost spot (beta_at spot.piece spot.reached) entry is start
indices_on Inside spot entry is start =
    indices_there Inside spot (beta_at spot.piece spot.reached) entry is start
indices_on (Link interface) spot entry is start =
    indices_there (Link interface) spot (beta_before spot.piece spot.reached) entry is start

-- the router is one to which the packet may have come: what is asked of its arrival
pub record Comes (view : View) (arrival : Arrival) (source : ℕ) (spot : PathPosition)
    (entry : Entry) : Type 0 where
  pub start : is_start_right arrival (total_hops spot.past + spot.reached) ≡ true
  pub way : way_in_fits view arrival (info_with spot.piece 0) (field_of entry) ≡ true
  pub from : source_fits view arrival source ≡ true

-- the hop is live and the router's AS made it
pub record IsOwn (view : View) (now : ℕ) (piece : PieceValue) (i : ℕ) (entry : Entry) : Type 0 where
  pub live : is_hop_live now (info_with piece (beta_at piece i)) (field_of entry) ≡ true
  pub mac : is_mac_right view (info_with piece (beta_at piece i)) (field_of entry) ≡ true

hop_on : (arrival : Arrival) (spot : PathPosition) (entry : Entry) → IsSpot spot entry
    → current_hop (header_on arrival spot) ≡ field_of entry
hop_on FromHost spot entry is = hop_of-header_with spot _ entry is.there
hop_on Inside spot entry is = hop_of-header_with spot _ entry is.there
hop_on (Link interface) spot entry is = hop_of-header_with spot _ entry is.there

way_on_arrival : (view : View) (arrival : Arrival) (spot : PathPosition) (entry : Entry) → IsSpot spot entry
    → way_in_fits view arrival (info_with spot.piece 0) (field_of entry) ≡ true
    → way_in_fits view arrival (current_info (header_on arrival spot))
    (current_hop (header_on arrival spot)) ≡ true
way_on_arrival view FromHost spot entry is way = refl
way_on_arrival view Inside spot entry is way = refl
way_on_arrival view (Link interface) spot entry is way =
    ap (λ (i : InfoField). way_in_fits view (Link interface) i (current_hop (header_coming spot)))
    (info_of-header_with spot (beta_before spot.piece spot.reached))
    ∙ ap (λ (h : HopField). way_in_fits view (Link interface)
    (info_with spot.piece (beta_before spot.piece spot.reached)) h)
    (hop_on (Link interface) spot entry is)
    ∙ way

pub admitted_there : (view : View) (now : ℕ) (arrival : Arrival) (source : ℕ) (spot : PathPosition)
    (entry : Entry) → IsSpot spot entry → Comes view arrival source spot entry
    → IsOwn view now spot.piece spot.reached entry
    → IsAdmitted view now arrival source (header_on arrival spot) (header_there spot)
admitted_there view now arrival source spot entry is comes own = record {
  here_is = arrived_there arrival spot entry is;
  indices = indices_on arrival spot entry is comes.start;
  way_in = way_on_arrival view arrival spot entry is comes.way;
  live =
      ap (λ (i : InfoField). is_hop_live now i (current_hop (header_on arrival spot)))
      (info_of-header_with spot (beta_at spot.piece spot.reached))
      ∙ ap (λ (h : HopField). is_hop_live now
      (info_with spot.piece (beta_at spot.piece spot.reached)) h) (hop_on arrival spot entry is)
      ∙ own.live;
  mac =
      ap (λ (i : InfoField). is_mac_right view i (current_hop (header_on arrival spot)))
      (info_of-header_with spot (beta_at spot.piece spot.reached))
      ∙ ap (λ (h : HopField). is_mac_right view
      (info_with spot.piece (beta_at spot.piece spot.reached)) h) (hop_on arrival spot entry is)
      ∙ own.mac;
  from = comes.from;
}

-- ---- where the path goes on

pub hops_of_spot : (spot : PathPosition)
    → length (flat_map fields_of (pieces_at spot)) ≡ total_hops spot.past +
    (len_of spot.piece + total_hops spot.later)
hops_of_spot spot = length_fields (pieces_at spot)
    ∙ sum_by-append len_of spot.past (spot.piece ∷ spot.later)
    ∙ ap (λ n. total_hops spot.past + n) (sum_by-cons len_of spot.piece spot.later)

pub not_last : (spot : PathPosition) (seg_id : ℕ)
    → spot.reached + 1 < len_of spot.piece + total_hops spot.later
    → is_last (header_with spot seg_id) ≡ false
unfolding header_with
not_last spot seg_id more =
    let count = hops_of_spot spot in
    let apart : total_hops spot.past + spot.reached + 1 < length
    (flat_map fields_of (pieces_at spot)) = omega arith in
    grind (arith, nat_tests)

pub last : (spot : PathPosition) (seg_id : ℕ) → spot.reached + 1 ≡ len_of spot.piece → spot.later ≡ []
    → is_last (header_with spot seg_id) ≡ true
unfolding header_with
last spot seg_id at_end none =
    let count = hops_of_spot spot in
    let no_more : total_hops spot.later ≡ 0 = ap (λ (ps : List PieceValue). total_hops ps) none in
    let same : total_hops spot.past + spot.reached + 1 ≡ length
    (flat_map fields_of (pieces_at spot)) = omega arith in
    eq-eqb _ _ same

-- ---- on one piece

pub stays : (spot : PathPosition) (seg_id : ℕ) (entry : Entry) → IsSpot spot entry
    → spot.reached + 1 < len_of spot.piece → ends_segment (header_with spot seg_id) ≡ false
unfolding header_with
stays spot seg_id entry is more =
    let place : total_hops spot.past + (spot.reached + 1) ≡ total_hops spot.past + spot.reached + 1 =
    omega arith in
    let segment =
    segment_of_place spot.past spot.later spot.piece
    (spot.reached + 1) is.three is.past_long more in
    let same : segment_at (lens_from (map len_of (pieces_at spot)))
    (total_hops spot.past + spot.reached + 1) ≡ length spot.past =
    ap (segment_at (lens_from (map len_of (pieces_at spot)))) (sym place) ∙ segment in
    ap not (eq-eqb _ _ same)

pub not_moved : (header : HeaderValue) → moved_on false header ≡ header
not_moved header =
    let inf : header.curr_inf + 0 ≡ header.curr_inf = omega arith in
    let hf : header.curr_hf + 0 ≡ header.curr_hf = omega arith in
    ap (λ n. record header { curr_inf = n; curr_hf = header.curr_hf + 0 }) inf
    ∙ ap (λ n. record header { curr_hf = n }) hf

further : (spot : PathPosition) (seg_id : ℕ)
    → record (header_with spot seg_id) { curr_hf = (header_with spot seg_id).curr_hf + 1 }
    ≡ header_with (next_position spot) seg_id
unfolding header_with
further spot seg_id =
    let place : total_hops spot.past + spot.reached + 1 ≡ total_hops spot.past + (spot.reached + 1) =
    omega arith in
    ap (λ n. record (header_with spot seg_id) { curr_hf = n }) place

-- a packet that leaves comes to the next entry
pub leaving : (spot : PathPosition) (entry : Entry) (interface : ℕ) → IsSpot spot entry
    → spot.reached + 1 < len_of spot.piece
    → header_on_leaving (ToLink interface) (header_there spot) ≡ header_coming (next_position spot)
leaving spot entry interface is more =
    let beta = beta_at spot.piece spot.reached in
    let left : with_seg_id (header_with spot beta)
    (seg_id_on_leaving (current_info (header_with spot beta)) (current_hop (header_with spot beta)))
    ≡ header_with spot (beta_before spot.piece (spot.reached + 1)) =
    with_seg_id-header_with spot beta _
    ∙ ap (λ (i : InfoField). header_with spot
    (seg_id_on_leaving i (current_hop (header_with spot beta)))) (info_of-header_with spot beta)
    ∙ ap (λ (h : HopField). header_with spot (seg_id_on_leaving (info_with spot.piece beta) h))
    (hop_of-header_with spot beta entry is.there)
    ∙ ap (header_with spot) (onward spot.piece spot.reached entry is.ranged is.there more) in
    ap (λ (h : HeaderValue). record h { curr_hf = h.curr_hf + 1 }) left
    ∙ further spot (beta_before spot.piece (spot.reached + 1))
