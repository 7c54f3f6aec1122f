-- The header of a packet on its path is one of the grammar, and its numbers fit.
use Rattle.std.proofs.Common.{◌≡◌, ℕ, zero, suc, ◌+◌, ◌-◌, ◌^◌, ◌<◌, List, [], ◌∷◌, ◌++◌, length, get_or, map, Some, refl, ap, ◌∙◌, subst, arith}
use Rattle.std.specs.Prelude.{slice_get}
use Rattle.std.specs.List.{flat_map, AllByRecursion}
use Rattle.std.proofs.lemmas.Option.{slice_get-get_or}
use Rattle.hop_mac.specs.Hop.{beta_after}
use Rattle.path_segment.specs.declared.entry.Entry.{Entry}
use Rattle.path_header.specs.declared.fields.InfoField.{InfoField}
use Rattle.path_header.specs.declared.fields.HopField.{HopField}
use Rattle.path_header.specs.Value.{IsHeader}
use Rattle.path_header.specs.Spelling.{InfoFits, HopFits, FitsBits, SpellsHeader, spelling}
use Rattle.path_header.proofs.WholeHeader.{spelling_spells}
use Rattle.path_verifier.specs.Piece.{PieceValue, HasRange, travelled_entries}
use Rattle.path_verifier.specs.Header.{info_with, field_of, fields_of, len_of, header_of}
use Rattle.path_verifier.specs.Header as path
use Rattle.path_verifier.proofs.Headers.{field_there}
use Rattle.router_step.specs.declared.arrival.Arrival.{Arrival}
use Rattle.router_step.specs.declared.arrival.Arrival.TheVariants.{FromHost, Inside, Link}
use Rattle.router_step.specs.Place.{seg_id_on_arrival}
use Rattle.router_step.proofs.Fits.{chosen, stepped, on_leaving, all_there}
use Rattle.forwarding.specs.PathPosition.{PathPosition, pieces_at, beta_at, beta_before, info_left, header_with}
use Rattle.forwarding.specs.OnPath.{header_on}
use Rattle.forwarding.proofs.Betas.{settled, onward}
use Rattle.forwarding.proofs.Places.{long_of}
use Rattle.forwarding.proofs.Stepping.{first_info}
use Rattle.forwarding.proofs.AtSpot.{IsSpot, within_piece, hops_of_spot}

-- ---- accumulators have 16 bits

on_arrival : (interface : ℕ) (info : InfoField) (hop : HopField) → info.seg_id < 2 ^ 16
    → HopFits hop
    → seg_id_on_arrival (Link interface) info hop < 2 ^ 16
on_arrival interface info hop small fits =
    chosen _ (beta_after info.seg_id hop.mac) info.seg_id (stepped info.seg_id hop small fits) small

-- ---- what holds of each of a list

all_front : {X : Type 0} (P : X → Type 0) (xs ys : List X) → AllByRecursion P (xs ++ ys)
    → AllByRecursion P xs
all_front P [] ys all = tt
all_front P (x ∷ xs) ys all = (all.0, all_front P xs ys all.1)

all_behind : {X : Type 0} (P : X → Type 0) (xs ys : List X) → AllByRecursion P (xs ++ ys)
    → AllByRecursion P ys
all_behind P [] ys all = all
all_behind P (x ∷ xs) ys all = all_behind P xs ys all.1

fields_at : (past later : List PieceValue) (piece : PieceValue)
    → AllByRecursion HopFits (flat_map fields_of (past ++ piece ∷ later))
    → AllByRecursion HopFits (fields_of piece)
fields_at [] later piece all = all_front HopFits (fields_of piece) (flat_map fields_of later) all
fields_at (one ∷ past) later piece all =
    fields_at past later piece
    (all_behind HopFits (fields_of one) (flat_map fields_of (past ++ piece ∷ later)) all)

infos_at : (past later : List PieceValue) (piece : PieceValue)
    → AllByRecursion InfoFits (map path.info_of (past ++ piece ∷ later))
    → InfoFits (path.info_of piece)
infos_at [] later piece all = all.0
infos_at (one ∷ past) later piece all = infos_at past later piece all.1

-- ---- the accumulators of a piece

entry_in : (piece : PieceValue) (i : ℕ) → i < len_of piece
    → (entry : Entry) × (slice_get (travelled_entries piece) i ≡ Some entry)
entry_in piece i within =
    let none : Entry =
    record { ia = 0; cons_ingress = 0; cons_egress = 0; exp_time = 0; mac = [] } in
    (get_or (travelled_entries piece) i none, slice_get-get_or (travelled_entries piece) i none within)

field_fits : (piece : PieceValue) (i : ℕ) (entry : Entry) → AllByRecursion HopFits (fields_of piece)
    → slice_get (travelled_entries piece) i ≡ Some entry → HopFits (field_of entry)
field_fits piece i entry all there =
    all_there HopFits (fields_of piece) i (field_of entry) all
    (field_there piece i entry (field_of entry) there refl)

first_small : (piece : PieceValue) → InfoFits (path.info_of piece) → beta_at piece 0 < 2 ^ 16
first_small piece fits =
    subst (λ n. n < 2 ^ 16) (ap (λ (x : InfoField). x.seg_id) (first_info piece)) fits.seg_id

module _ (piece : PieceValue) (range : HasRange piece) (info : InfoFits (path.info_of piece))
    (fields : AllByRecursion HopFits (fields_of piece)) where
  from_one : (i : ℕ) → i + 1 < len_of piece → beta_at piece i < 2 ^ 16
      → beta_before piece (i + 1) < 2 ^ 16
  from_one i within small =
      let here = entry_in piece i (omega arith) in
      subst (λ n. n < 2 ^ 16) (onward piece i here.0 range here.1 within)
      (on_leaving (info_with piece (beta_at piece i)) (field_of here.0) small
      (field_fits piece i here.0 fields here.1))

  pub at_small : (i : ℕ) → i < len_of piece → beta_at piece i < 2 ^ 16
  at_small zero within = first_small piece info
  at_small (suc i) within =
      let place : i + 1 ≡ suc i = omega arith in
      let inside : i + 1 < len_of piece = omega arith in
      let before = from_one i inside (at_small i (omega arith)) in
      let next = entry_in piece (i + 1) inside in
      let there : beta_at piece (i + 1) < 2 ^ 16 =
      subst (λ n. n < 2 ^ 16) (settled piece (i + 1) 0 next.0 range next.1)
      (on_arrival 0 (info_with piece (beta_before piece (i + 1))) (field_of next.0) before
      (field_fits piece (i + 1) next.0 fields next.1)) in
      subst (λ k. beta_at piece k < 2 ^ 16) place there

  pub before_small : (i : ℕ) → 0 < i → i < len_of piece → beta_before piece i < 2 ^ 16
  before_small zero some within = absurd (omega arith)
  before_small (suc i) some within =
      let place : i + 1 ≡ suc i = omega arith in
      subst (λ k. beta_before piece k < 2 ^ 16) place
      (from_one i (omega arith) (at_small i (omega arith)))

-- ---- the header

infos_fit : (past later : List PieceValue) (piece : PieceValue) (seg_id : ℕ)
    → AllByRecursion HasRange (past ++ piece ∷ later)
    → AllByRecursion InfoFits (map path.info_of (past ++ piece ∷ later))
    → AllByRecursion HopFits (flat_map fields_of (past ++ piece ∷ later)) → seg_id < 2 ^ 16
    → AllByRecursion InfoFits
    (map info_left past ++ info_with piece seg_id ∷ map path.info_of later)
infos_fit [] later piece seg_id ranges infos hops small =
    (record { seg_id = small; timestamp = infos.0.timestamp }, infos.1)
infos_fit (one ∷ past) later piece seg_id ranges infos hops small =
    let fields =
    all_front HopFits (fields_of one) (flat_map fields_of (past ++ piece ∷ later)) hops in
    let behind =
    all_behind HopFits (fields_of one) (flat_map fields_of (past ++ piece ∷ later)) hops in
    let long = long_of one ranges.0 in
    let left = at_small one ranges.0 infos.0 fields (len_of one - 1) (omega arith) in (
      record { seg_id = left; timestamp = infos.0.timestamp },
      infos_fit past later piece seg_id ranges.1 infos.1 behind small,
    )

-- as many info fields as there are pieces
count_infos : (past later : List PieceValue) (piece : PieceValue) (info : InfoField)
    → length (map info_left past ++ info ∷ map path.info_of later)
    ≡ length (map path.info_of (past ++ piece ∷ later))
count_infos [] later piece info = refl
count_infos (one ∷ past) later piece info = ap (λ n. suc n) (count_infos past later piece info)

past_within : (past later : List PieceValue) (info : InfoField)
    → length past < length (map info_left past ++ info ∷ map path.info_of later)
past_within [] later info = omega arith
past_within (one ∷ past) later info = let more = past_within past later info in omega arith

is_header_there : (spot : PathPosition) (entry : Entry) (seg_id : ℕ) → IsSpot spot entry
    → IsHeader (header_of (pieces_at spot)) → IsHeader (header_with spot seg_id)
unfolding header_of header_with
is_header_there spot entry seg_id is header = record {
  lens = header.lens;
  infos = count_infos spot.past spot.later spot.piece (info_with spot.piece seg_id) ∙ header.infos;
  hops = header.hops;
  curr_inf = past_within spot.past spot.later (info_with spot.piece seg_id);
  curr_hf = (
      let inside = within_piece spot entry is in
      let count = hops_of_spot spot in
      omega arith);
}

fits_there : (spot : PathPosition) (seg_id : ℕ) → AllByRecursion HasRange (pieces_at spot)
    → FitsBits (header_of (pieces_at spot)) → seg_id < 2 ^ 16 → FitsBits (header_with spot seg_id)
unfolding header_of header_with
fits_there spot seg_id ranges fits small = record {
  infos = infos_fit spot.past spot.later spot.piece seg_id ranges fits.infos fits.hops small;
  hops = fits.hops;
}

infos_of : (pieces : List PieceValue) → FitsBits (header_of pieces)
    → AllByRecursion InfoFits (map path.info_of pieces)
unfolding header_of
infos_of pieces fits = fits.infos

hops_of_all : (pieces : List PieceValue) → FitsBits (header_of pieces)
    → AllByRecursion HopFits (flat_map fields_of pieces)
unfolding header_of
hops_of_all pieces fits = fits.hops

range_at : (past later : List PieceValue) (piece : PieceValue)
    → AllByRecursion HasRange (past ++ piece ∷ later) → HasRange piece
range_at [] later piece all = all.0
range_at (one ∷ past) later piece all = range_at past later piece all.1

module _ (spot : PathPosition) (entry : Entry) (is : IsSpot spot entry)
    (ranges : AllByRecursion HasRange (pieces_at spot))
    (header : IsHeader (header_of (pieces_at spot)))
    (fits : FitsBits (header_of (pieces_at spot))) where
  with_small : (seg_id : ℕ) → seg_id < 2 ^ 16
      → SpellsHeader (spelling (header_with spot seg_id)) (header_with spot seg_id)
  with_small seg_id small =
      spelling_spells (header_with spot seg_id) (is_header_there spot entry seg_id is header)
      (fits_there spot seg_id ranges fits small)

  here_small : beta_at spot.piece spot.reached < 2 ^ 16
  here_small =
      at_small spot.piece (range_at spot.past spot.later spot.piece ranges)
      (infos_at spot.past spot.later spot.piece (infos_of (pieces_at spot) fits))
      (fields_at spot.past spot.later spot.piece (hops_of_all (pieces_at spot) fits))
      spot.reached (within_piece spot entry is)

  -- the header with which a packet comes to a spot, over a link to one that is not the piece's
  -- first
  pub spelled_on : (arrival : Arrival)
      → ((interface : ℕ) → arrival ≡ Link interface → 0 < spot.reached)
      → SpellsHeader (spelling (header_on arrival spot)) (header_on arrival spot)
  spelled_on FromHost later = with_small (beta_at spot.piece spot.reached) here_small
  spelled_on Inside later = with_small (beta_at spot.piece spot.reached) here_small
  spelled_on (Link interface) later =
      with_small (beta_before spot.piece spot.reached)
      (before_small spot.piece (range_at spot.past spot.later spot.piece ranges)
      (infos_at spot.past spot.later spot.piece (infos_of (pieces_at spot) fits))
      (fields_at spot.past spot.later spot.piece (hops_of_all (pieces_at spot) fits))
      spot.reached (later interface refl) (within_piece spot entry is))
