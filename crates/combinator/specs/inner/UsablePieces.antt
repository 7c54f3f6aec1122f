-- The pieces that may occur in paths, as they are listed (words of private functions' contracts).
use Rattle.std.specs.Prelude.{◌≡◌, ℕ, ◌+◌, ◌*◌, ◌==◌, Bool, if◌then◌else◌, List, length, Contains}
use Rattle.std.specs.Int.{w64, from_be_bytes}
use Rattle.std.specs.declared.cmp.Ordering.{Ordering}
use Rattle.std.specs.Ordering.{nat_cmp, ordering_then}
use Rattle.path_header.specs.Spelling.{info_spelling}
use Rattle.path_segment.specs.declared.kind.SegKind.TheVariants as kinds
use Rattle.path_segment.specs.Chain.{Chain}
use Rattle.path_verifier.specs.declared.kind.PieceKind.{PieceKind}
use Rattle.path_verifier.specs.declared.kind.PieceKind.TheVariants.{Up, Core, Down}
use Rattle.path_verifier.specs.Piece.{PieceValue, HasRange, begins_in, ends_in, kind_of}
use Rattle.path_verifier.specs.Header.{info_of, len_of}

abbrev pub piece_of : (segment : Chain) (from to : ℕ) (along : Bool) → PieceValue
piece_of segment from to along = record { segment = segment; from = from; to = to; along = along }

-- the end of a piece that is farther from the first AS of its segment
abbrev pub outer_of : PieceValue → ℕ
outer_of piece = if piece.along then ends_in piece else begins_in piece

-- the piece is of one of these intra segments, in this direction, with this AS at its outer end
pub record IsCut (segments : List Chain) (along : Bool) (outer : ℕ)
    (piece : PieceValue) : Type 0 where
  pub there : Contains segments piece.segment
  pub range : HasRange piece
  pub kind : piece.segment.kind ≡ kinds.Intra
  pub direction : piece.along ≡ along
  pub end : outer_of piece ≡ outer

-- the piece is one of these core segments, whole
pub record IsWhole (segments : List Chain) (piece : PieceValue) : Type 0 where
  pub there : Contains segments piece.segment
  pub kind : piece.segment.kind ≡ kinds.Core
  pub first : piece.from ≡ 0
  pub last : piece.to + 1 ≡ length piece.segment.entries

-- every piece of the first list is in the second
abbrev pub AreIn : (pieces others : List PieceValue) → Type 0
AreIn pieces others = (piece : PieceValue) → Contains pieces piece → Contains others piece

-- whether the piece begins in this AS
abbrev pub begins_at : ℕ → PieceValue → Bool
begins_at at piece = begins_in piece == at

-- the place of a kind among pieces that begin in one AS
abbrev pub kind_rank : PieceKind → ℕ
kind_rank Down = 0
kind_rank Up = 1
kind_rank Core = 2

-- where a piece stands among those that begin in its AS: by its kind, then by its number of hop
-- fields, which is at most 63
abbrev pub rank_of : PieceValue → ℕ
rank_of piece = kind_rank (kind_of piece) * 64 + len_of piece

-- the bytes of the piece's info field as one number
abbrev pub info_number : PieceValue → ℕ
info_number piece = from_be_bytes w64 (info_spelling (info_of piece))

-- the order of the search: by the AS in which a piece begins, then by its rank, then by its info
-- field
unfoldable pub piece_cmp : (one other : PieceValue) → Ordering
piece_cmp one other = ordering_then (nat_cmp (begins_in one) (begins_in other))
    (ordering_then (nat_cmp (rank_of one) (rank_of other))
    (nat_cmp (info_number one) (info_number other)))
