-- A router step onto the next piece of a path.
use Rattle.std.proofs.Common.{◌≡◌, ◌≢◌, ℕ, ◌+◌, ◌<◌, true, not, ◌==◌, List, [], ◌∷◌, ◌++◌, length, map, Ok, Some, refl, sym, ap, ◌∙◌, subst, arith, length-append}
use Rattle.std.specs.Prelude.{slice_get}
use Rattle.std.specs.List.{AllByRecursion}
use Rattle.std.proofs.lemmas.Bool.{ne_eqb}
use Rattle.std.proofs.lemmas.List.Sums.{sum_by_push, sum_by-cons}
use Rattle.scion_topology.specs.declared.entry.IfEntry.{IfEntry}
use Rattle.scion_topology.specs.View.{View}
use Rattle.path_segment.specs.declared.entry.Entry.{Entry}
use Rattle.path_header.specs.declared.fields.InfoField.{InfoField}
use Rattle.path_header.specs.declared.fields.HopField.{HopField}
use Rattle.path_header.specs.Value.{HeaderValue, lens_from, segment_at}
use Rattle.path_verifier.specs.Piece.{PieceValue, HasRange, travelled_entries}
use Rattle.path_verifier.specs.Header.{info_with, len_of, total_hops}
use Rattle.router_step.specs.declared.arrival.Arrival.TheVariants.{Link}
use Rattle.router_step.specs.Place.{current_info, current_hop, moved_on, header_on_leaving}
use Rattle.router_step.specs.Checks.{is_hop_live, is_mac_right, ends_segment}
use Rattle.router_step.specs.Step.{step_of}
use Rattle.forwarding.specs.PathPosition.{PathPosition, beta_at, header_with, header_there}
use Rattle.forwarding.specs.OnPath.{header_on}
use Rattle.forwarding.proofs.Reading.{info_of-header_with, hop_of-header_with}
use Rattle.forwarding.proofs.Places.{IsLong, long_of, segment_of_place}
use Rattle.router_step.specs.Forward.{MayLeave, goes}
use Rattle.router_step.proofs.Computed.{a_switch, went_on}
use Rattle.forwarding.proofs.AtSpot.{IsSpot, within_piece, Comes, IsOwn, admitted_there, not_last}
use Rattle.forwarding.proofs.Stepping.{Opens, may_leave, onward_by, answer, done, destination_elsewhere, is_beyond, switch_header}

abbrev pub at_end : List PieceValue → PieceValue → PieceValue → List PieceValue → ℕ → PathPosition
at_end past piece next later i =
    record { past = past; piece = piece; later = next ∷ later; reached = i }

abbrev pub at_start : List PieceValue → PieceValue → PieceValue → List PieceValue → PathPosition
at_start past piece next later =
    record { past = past ++ piece ∷ []; piece = next; later = later; reached = 0 }

snoc_long : (past : List PieceValue) (piece : PieceValue) → AllByRecursion IsLong past
    → IsLong piece → AllByRecursion IsLong (past ++ piece ∷ [])
snoc_long [] piece a b = (b, tt)
snoc_long (one ∷ past) piece a b = (a.0, snoc_long past piece a.1 b)

-- the first entry of the next piece is a spot too
pub next_spot : (past later : List PieceValue) (piece next : PieceValue) (i : ℕ)
    (entry first : Entry) → IsSpot (at_end past piece next later i) entry → HasRange next
    → slice_get (travelled_entries next) 0 ≡ Some first
    → IsSpot (at_start past piece next later) first
next_spot past later piece next i entry first is range there = record {
  three = let same =
      ap (λ (ps : List PieceValue). length ps) (is_beyond past later piece next) in let three =
      is.three in omega arith;
  past_long = snoc_long past piece is.past_long (long_of piece is.ranged);
  ranged = range;
  later_long = is.later_long.1;
  there = there;
}

ends : (past later : List PieceValue) (piece next : PieceValue) (i seg_id : ℕ) (entry first : Entry)
    → IsSpot (at_end past piece next later i) entry → HasRange next
    → slice_get (travelled_entries next) 0 ≡ Some first → i + 1 ≡ len_of piece
    → ends_segment (header_with (at_end past piece next later i) seg_id) ≡ true
unfolding header_with
ends past later piece next i seg_id entry first is range there over =
    let beyond = next_spot past later piece next i entry first is range there in
    let segment = segment_of_place (past ++ piece ∷ []) later next 0 beyond.three beyond.past_long
    (within_piece (at_start past piece next later) first beyond) in
    let count = sum_by_push len_of past piece in
    let place : total_hops (past ++ piece ∷ []) + 0 ≡ total_hops past + i + 1 = omega arith in
    let behind : length (past ++ piece ∷ []) ≡ length past + 1 = length-append past (piece ∷ []) in
    let found : segment_at (lens_from (map len_of (past ++ piece ∷ next ∷ later)))
    (total_hops past + i + 1) ≡ length past + 1 =
    ap (λ (ps : List PieceValue). segment_at (lens_from (map len_of ps)) (total_hops past + i + 1))
    (sym (is_beyond past later piece next))
    ∙ ap (segment_at (lens_from (map len_of ((past ++ piece ∷ []) ++ next ∷ later)))) (sym place)
    ∙ segment ∙ behind in
    let apart : segment_at (lens_from (map len_of (past ++ piece ∷ next ∷ later)))
    (total_hops past + i + 1) ≢ length past =
    λ same. (let two = sym found ∙ same in absurd (omega arith)) in
    ap not (ne_eqb _ _ apart)

-- where a piece ends, a packet that came over a link goes on by the next one
pub switches : (view : View) (now interface source destination : ℕ) (past later : List PieceValue)
    (piece next : PieceValue) (i : ℕ) (entry first : Entry) (out : IfEntry)
    → IsSpot (at_end past piece next later i) entry
    → Comes view (Link interface) source (at_end past piece next later i) entry
    → IsOwn view now piece i entry
    → HasRange next → slice_get (travelled_entries next) 0 ≡ Some first → IsOwn view now next 0 first
    → destination ≢ view.ia → i + 1 ≡ len_of piece → Opens view (Link interface) true next first out
    → step_of view now (Link interface) source destination
    (header_on (Link interface) (at_end past piece next later i)) ≡ Ok
    (onward_by view out (at_start past piece next later) first)
switches view now interface source destination past later piece next i entry first out is comes own
    range there own_next other over opens =
    let spot = at_end past piece next later i in
    let goal = at_start past piece next later in
    let b = beta_at piece i in
    let same = switch_header past later piece next i over in
    let is_next = next_spot past later piece next i entry first is range there in
    let long = long_of next range in
    let count = sum_by-cons len_of next later in
    let further : i + 1 < len_of piece + total_hops (next ∷ later) = omega arith in
    let live : is_hop_live now (current_info (moved_on true (header_there spot)))
    (current_hop (moved_on true (header_there spot))) ≡ true =
    ap (λ (h : HeaderValue). is_hop_live now (current_info h) (current_hop h)) same
    ∙ ap (λ (x : InfoField). is_hop_live now x (current_hop (header_there goal)))
    (info_of-header_with goal (beta_at next 0))
    ∙ ap (λ (x : HopField). is_hop_live now (info_with next (beta_at next 0)) x)
    (hop_of-header_with goal (beta_at next 0) first there) ∙ own_next.live in
    let mac : is_mac_right view (current_info (moved_on true (header_there spot)))
    (current_hop (moved_on true (header_there spot))) ≡ true =
    ap (λ (h : HeaderValue). is_mac_right view (current_info h) (current_hop h)) same
    ∙ ap (λ (x : InfoField). is_mac_right view x (current_hop (header_there goal)))
    (info_of-header_with goal (beta_at next 0))
    ∙ ap (λ (x : HopField). is_mac_right view (info_with next (beta_at next 0)) x)
    (hop_of-header_with goal (beta_at next 0) first there) ∙ own_next.mac in
    let may : MayLeave view (Link interface) true (moved_on true (header_there spot)) out =
    subst (λ (h : HeaderValue). MayLeave view (Link interface) true h out) (sym same)
    (may_leave view (Link interface) true goal first out is_next opens) in
    went_on view now (Link interface) source destination (header_on (Link interface) spot)
    (header_there spot) true out
    (admitted_there view now (Link interface) source spot entry is comes own)
    (not_last spot b further) (destination_elsewhere view destination other)
    (a_switch view now (Link interface) (header_there spot)
    (ends past later piece next i b entry first is range there over) refl live mac) may
    ∙ ap (λ (h : HeaderValue). done (goes view out h, header_on_leaving (goes view out h) h)) same
    ∙ ap done
    (answer view out goal first is_next (omega arith) (not (out.router == view.router)) refl)
