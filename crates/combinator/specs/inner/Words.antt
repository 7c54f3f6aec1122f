-- The parts by which headers compare.
use Rattle.std.specs.Prelude.{ℕ, ◌<◌, List, map}
use Rattle.std.specs.List.{flat_map}
use Rattle.std.specs.declared.cmp.Ordering.{Ordering}
use Rattle.std.specs.Ordering.{nat_cmp, ordering_then}
use Rattle.path_header.specs.declared.lens.SegLens.{SegLens}
use Rattle.path_header.specs.Value.{lens_from}
use Rattle.path_verifier.specs.Piece.{PieceValue}
use Rattle.path_verifier.specs.Header.{len_of}
use Rattle.combinator.specs.inner.Group.{hop_bytes}

-- the order of lengths, place by place
abbrev pub lens_cmp : SegLens → SegLens → Ordering
lens_cmp one other = ordering_then (nat_cmp one.first other.first)
    (ordering_then (nat_cmp one.second other.second) (nat_cmp one.third other.third))

-- each length is below 64
abbrev pub AreSmall : SegLens → Type 0
AreSmall lens = (lens.first < 64) × (lens.second < 64) × (lens.third < 64)

abbrev pub lens_of_pieces : List PieceValue → SegLens
lens_of_pieces pieces = lens_from (map len_of pieces)

abbrev pub hops_bytes : List PieceValue → List ℕ
hops_bytes pieces = flat_map hop_bytes pieces
