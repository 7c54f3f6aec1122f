-- The header of a packet that has come through all its pieces.
use Rattle.std.proofs.Common.{◌≡◌, ℕ, ◌+◌, ◌-◌, List, [], ◌∷◌, ◌++◌, length, map, refl, sym, ap, ◌∙◌, arith, length-append}
use Rattle.std.specs.List.{flat_map}
use Rattle.std.proofs.lemmas.List.{map-append}
use Rattle.std.proofs.lemmas.List.Sums.{sum_by-append, sum_by-cons}
use Rattle.path_header.specs.declared.lens.SegLens.{SegLens}
use Rattle.path_header.specs.declared.fields.InfoField.{InfoField}
use Rattle.path_header.specs.declared.fields.HopField.{HopField}
use Rattle.path_header.specs.Value.{HeaderValue, lens_from}
use Rattle.path_verifier.specs.Piece.{PieceValue}
use Rattle.path_verifier.specs.Header.{info_with, fields_of, len_of, info_of, total_hops}
use Rattle.forwarding.specs.PathPosition.{PathPosition, pieces_at, beta_at, info_left, header_with, header_there}
use Rattle.forwarding.specs.Turned.{header_behind}

abbrev pub lens_of : List PieceValue → SegLens
lens_of pieces = lens_from (map len_of pieces)

pub header_like : (i i' h h' : ℕ) (l l' : SegLens) (xs xs' : List InfoField)
    (ys ys' : List HopField) → i ≡ i' → h ≡ h' → l ≡ l' → xs ≡ xs' → ys ≡ ys'
    → (let v : HeaderValue =
    record {
      curr_inf = i;
      curr_hf = h;
      lens = l;
      infos = xs;
      hops =
          ys;
    } in let w : HeaderValue =
    record { curr_inf = i'; curr_hf = h'; lens = l'; infos = xs'; hops = ys' } in v ≡ w)
header_like i i' h h' l l' xs xs' ys ys' ei eh el exs eys = cc

-- where a packet stands at the last entry of the last piece, that is its header
pub there_behind : (spot : PathPosition) → spot.later ≡ [] → spot.reached + 1 ≡ len_of spot.piece
    → header_there spot ≡ header_behind (pieces_at spot)
unfolding header_with header_behind
there_behind spot none over =
    let past = spot.past in
    let piece = spot.piece in
    let place : spot.reached ≡ len_of piece - 1 = omega arith in
    let whole : past ++ piece ∷ spot.later ≡ past ++ piece ∷ [] =
    ap (λ (ps : List PieceValue). past ++ piece ∷ ps) none in
    let long = ap (λ (ps : List PieceValue). length ps) whole in
    let front = length-append past (piece ∷ []) in
    let all = ap total_hops whole in
    let split = sum_by-append len_of past (piece ∷ []) in
    let one = sum_by-cons len_of piece [] in
    header_like _ (length (pieces_at spot) - 1) _ (total_hops (pieces_at spot) - 1) _
    (lens_of (pieces_at spot)) _ (map info_left (pieces_at spot)) _
    (flat_map fields_of (pieces_at spot))
    (omega arith) (omega arith) refl
    (ap (λ i. map info_left past ++ info_with piece (beta_at piece i) ∷ map info_of spot.later)
    place ∙ ap
    (λ (ps : List PieceValue). map info_left past ++ info_left piece ∷ map info_of ps) none
    ∙ sym (map-append info_left past (piece ∷ []))
    ∙ ap (λ (ps : List PieceValue). map info_left ps) (sym whole))
    refl
