-- What is read of, and written to, the header at a spot.
use Rattle.std.proofs.Common.{◌≡◌, ℕ, ◌+◌, ◌<◌, false, List, [], ◌∷◌, ◌++◌, length, get_or, set, map, Some, refl, sym, ap, ◌∙◌, length-append}
use Rattle.std.specs.Prelude.{slice_get}
use Rattle.std.specs.List.{flat_map}
use Rattle.std.proofs.Math.Seq.{get_or-append_seam, set-append_seam}
use Rattle.std.proofs.Math.ListN.{get_or-append}
use Rattle.std.proofs.lemmas.Grind.{flat_map-append}
use Rattle.std.proofs.lemmas.List.{length-map, get_or-append-add}
use Rattle.std.proofs.lemmas.List.Sums.{sum_by-cons}
use Rattle.std.proofs.lemmas.Option.{get_or_from_slice_get, slice_get_within}
use Rattle.path_segment.specs.declared.entry.Entry.{Entry}
use Rattle.path_header.specs.declared.fields.InfoField.{InfoField}
use Rattle.path_header.specs.declared.fields.HopField.{HopField}
use Rattle.path_verifier.specs.Piece.{PieceValue, travelled_entries}
use Rattle.path_verifier.specs.Header.{info_with, field_of, fields_of, len_of, total_hops}
use Rattle.path_verifier.specs.Header as path
use Rattle.path_verifier.proofs.Headers.{field_there, length_fields_of}
use Rattle.router_step.specs.Place.{current_info, current_hop, with_seg_id}
use Rattle.forwarding.specs.PathPosition.{PathPosition, info_left, header_with}

-- the info field at which the packet stands is that of its piece
pub info_of-header_with : (spot : PathPosition) (seg_id : ℕ)
    → current_info (header_with spot seg_id) ≡ info_with spot.piece seg_id
unfolding header_with
info_of-header_with spot seg_id =
    let seam =
    get_or-append_seam (map info_left spot.past) (info_with spot.piece seg_id)
    (map path.info_of spot.later)
    (record { construction = false; seg_id = 0; timestamp = 0 }) in
    ap (λ n. get_or
    (map info_left spot.past ++ info_with spot.piece seg_id ∷ map path.info_of spot.later) n
    (record { construction = false; seg_id = 0; timestamp = 0 }))
    (sym (length-map spot.past info_left)) ∙ seam

pub with_seg_id-header_with : (spot : PathPosition) (old new : ℕ)
    → with_seg_id (header_with spot old) new ≡ header_with spot new
unfolding header_with
with_seg_id-header_with spot old new =
    let read : record (current_info (header_with spot old)) { seg_id = new } ≡ info_with spot.piece new =
    ap (λ (i : InfoField). record i { seg_id = new }) (info_of-header_with spot old) in
    let front = map info_left spot.past in
    let back = map path.info_of spot.later in
    let written : set (front ++ info_with spot.piece old ∷ back) (length spot.past)
    (record (current_info (header_with spot old)) { seg_id = new })
    ≡ front ++ info_with spot.piece new ∷ back =
    ap (set (front ++ info_with spot.piece old ∷ back) (length spot.past)) read
    ∙ ap (λ n. set (front ++ info_with spot.piece old ∷ back) n (info_with spot.piece new))
    (sym (length-map spot.past info_left))
    ∙ set-append_seam front (info_with spot.piece old) back (info_with spot.piece new) in
    ap (λ (infos : List InfoField). record (header_with spot old) { infos = infos }) written

-- as many hop fields as the pieces have entries
pub length_fields : (pieces : List PieceValue)
    → length (flat_map fields_of pieces) ≡ total_hops pieces
length_fields [] = refl
length_fields (piece ∷ pieces) =
    length-append (fields_of piece) (flat_map fields_of pieces)
    ∙ ap (λ n. n + length (flat_map fields_of pieces)) (length_fields_of piece)
    ∙ ap (λ n. len_of piece + n) (length_fields pieces) ∙ sym (sum_by-cons len_of piece pieces)

-- the hop field at which it stands is that of the entry
pub hop_of-header_with : (spot : PathPosition) (seg_id : ℕ) (entry : Entry)
    → slice_get (travelled_entries spot.piece) spot.reached ≡ Some entry
    → current_hop (header_with spot seg_id) ≡ field_of entry
unfolding header_with
hop_of-header_with spot seg_id entry there =
    let none : HopField = record { exp_time = 0; cons_ingress = 0; cons_egress = 0; mac = [] } in
    let front = flat_map fields_of spot.past in
    let here = fields_of spot.piece in
    let back = flat_map fields_of spot.later in
    let field = field_there spot.piece spot.reached entry (field_of entry) there refl in
    let within : spot.reached < length here =
    slice_get_within here spot.reached (field_of entry) field in
    ap (λ xs. get_or xs (total_hops spot.past + spot.reached) none)
    (flat_map-append fields_of spot.past (spot.piece ∷ spot.later))
    ∙ ap (λ n. get_or (front ++ (here ++ back)) (n + spot.reached) none)
    (sym (length_fields spot.past))
    ∙ get_or-append-add front (here ++ back) spot.reached none
    ∙ get_or-append here back none spot.reached within
    ∙ get_or_from_slice_get here spot.reached (field_of entry) none field
