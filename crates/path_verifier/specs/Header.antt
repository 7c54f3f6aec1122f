-- The header of a path: draft-dekater-scion-dataplane, the SCION path type.
use Rattle.std.specs.Prelude.{ℕ, List, length, map, sum_by}
use Rattle.std.specs.List.{flat_map}
use Rattle.path_segment.specs.declared.entry.Entry.{Entry}
use Rattle.path_segment.specs.Chain.{beta_of}
use Rattle.path_header.specs.declared.fields.InfoField.{InfoField}
use Rattle.path_header.specs.declared.fields.HopField.{HopField}
use Rattle.path_header.specs.Value.{HeaderValue, lens_from}
use Rattle.path_header.specs.Building.{first_header}
use Rattle.path_verifier.specs.Piece.{PieceValue, travelled_entries, first_place}

-- the hop field of an entry
abbrev pub field_of : Entry → HopField
field_of entry = record {
  exp_time = entry.exp_time;
  cons_ingress = entry.cons_ingress;
  cons_egress = entry.cons_egress;
  mac = entry.mac;
}

-- the info field of a piece with this accumulator
abbrev pub info_with : PieceValue → ℕ → InfoField
info_with piece seg_id =
    record { construction = piece.along; seg_id = seg_id; timestamp = piece.segment.timestamp }

-- the info field of a piece: the direction, the accumulator at the first entry travelled, and the
-- segment's timestamp
abbrev pub info_of : PieceValue → InfoField
info_of piece = info_with piece (beta_of piece.segment (first_place piece))

-- the hop fields of a piece, in order of travel
unfoldable pub fields_of : PieceValue → List HopField
fields_of piece = map field_of (travelled_entries piece)

-- the number of hop fields of a piece
abbrev pub len_of : PieceValue → ℕ
len_of piece = length (travelled_entries piece)

-- the number of hop fields of all pieces together
abbrev pub total_hops : List PieceValue → ℕ
total_hops pieces = sum_by len_of pieces

-- the header of these pieces, with the packet at the first info and hop field
unfoldable pub header_of : List PieceValue → HeaderValue
header_of pieces =
    first_header (lens_from (map len_of pieces)) (map info_of pieces) (flat_map fields_of pieces)
