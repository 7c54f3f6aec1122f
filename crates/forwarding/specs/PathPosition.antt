-- The place of a packet on its path, and the header that it has there
-- (draft-dekater-scion-dataplane, path processing).
use Rattle.std.specs.Prelude.{ℕ, ◌+◌, ◌-◌, if◌then◌else◌, List, ◌∷◌, ◌++◌, length, map}
use Rattle.std.specs.List.{flat_map}
use Rattle.path_segment.specs.declared.entry.Entry.{Entry}
use Rattle.path_segment.specs.Chain.{beta_of}
use Rattle.path_header.specs.declared.fields.InfoField.{InfoField}
use Rattle.path_header.specs.Value.{HeaderValue, lens_from}
use Rattle.path_verifier.specs.Piece.{PieceValue}
use Rattle.path_verifier.specs.Header.{info_with, info_of, fields_of, len_of, total_hops}

-- a place on a path: the pieces already travelled, the current piece, the pieces to come, and the
-- index of the entry reached in the current piece, in order of travel from 0
pub record PathPosition : Type 0 where
  pub past : List PieceValue
  pub piece : PieceValue
  pub later : List PieceValue
  pub reached : ℕ

-- all pieces of the path
abbrev pub pieces_at : PathPosition → List PieceValue
pieces_at spot = spot.past ++ spot.piece ∷ spot.later

-- the place in the segment of the entry with index `i` in order of travel
abbrev pub place_of : PieceValue → ℕ → ℕ
place_of piece i = if piece.along then piece.from + i else piece.to - i

-- the accumulator under which that entry is authenticated
abbrev pub beta_at : PieceValue → ℕ → ℕ
beta_at piece i = beta_of piece.segment (place_of piece i)

-- the accumulator with which a packet arrives at that entry over a link. In construction direction
-- it is the entry's own. Against it, it is the one after the entry, from which the router computes
-- the entry's.
abbrev pub beta_before : PieceValue → ℕ → ℕ
beta_before piece i =
    beta_of piece.segment (if piece.along then place_of piece i else place_of piece i + 1)

-- the info field of a piece that was travelled to its end
abbrev pub info_left : PieceValue → InfoField
info_left piece = info_with piece (beta_at piece (len_of piece - 1))

-- the header at a place, with this accumulator in the info field of the current piece
unfoldable pub header_with : PathPosition → ℕ → HeaderValue
header_with spot seg_id =
    record {
      curr_inf = length spot.past;
      curr_hf = total_hops spot.past + spot.reached;
      lens = lens_from (map len_of (pieces_at spot));
      infos = map info_left spot.past ++ info_with spot.piece seg_id ∷ map info_of spot.later;
      hops = flat_map fields_of (pieces_at spot);
    }

-- the header of a packet at a place, after its arrival
abbrev pub header_there : PathPosition → HeaderValue
header_there spot = header_with spot (beta_at spot.piece spot.reached)

-- the header of a packet that arrives at a place over a link
abbrev pub header_coming : PathPosition → HeaderValue
header_coming spot = header_with spot (beta_before spot.piece spot.reached)

-- the place of the next entry in the same piece
abbrev pub next_position : PathPosition → PathPosition
next_position spot = record spot { reached = spot.reached + 1 }

-- the interfaces by which a path enters the AS of an entry, and by which it leaves
abbrev pub in_by : PieceValue → Entry → ℕ
in_by piece entry = if piece.along then entry.cons_ingress else entry.cons_egress

abbrev pub out_by : PieceValue → Entry → ℕ
out_by piece entry = if piece.along then entry.cons_egress else entry.cons_ingress
