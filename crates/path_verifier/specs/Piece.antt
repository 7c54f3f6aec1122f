-- Pieces of segments, the parts of paths (draft-dekater-scion-dataplane, segment combinations).
use Rattle.std.specs.Prelude.{ℕ, ◌-◌, ◌<◌, Bool, true, false, if◌then◌else◌, List, length, reverse}
use Rattle.path_segment.specs.declared.entry.Entry.{Entry}
use Rattle.path_segment.specs.declared.kind.SegKind.{SegKind}
use Rattle.path_segment.specs.declared.kind.SegKind.TheVariants.{Core, Intra}
use Rattle.path_segment.specs.Chain.{Chain, as_at, between}
use Rattle.path_verifier.specs.declared.kind.PieceKind.{PieceKind}
use Rattle.path_verifier.specs.declared.kind.PieceKind.TheVariants as kinds

-- a piece: a segment, the places of its first and last entry used, and whether it is travelled in
-- construction direction
pub record PieceValue : Type 0 where
  pub segment : Chain
  pub from : ℕ
  pub to : ℕ
  pub along : Bool

-- both places are places of entries, and the first is before the second
pub record HasRange (piece : PieceValue) : Type 0 where
  pub order : piece.from < piece.to
  pub within : piece.to < length piece.segment.entries

-- the kind of a piece: an intra segment is travelled up against construction direction and down in
-- it, a core segment in either direction
abbrev pub kind_in : SegKind → Bool → PieceKind
kind_in Core along = kinds.Core
kind_in Intra true = kinds.Down
kind_in Intra false = kinds.Up

abbrev pub kind_of : PieceValue → PieceKind
kind_of piece = kind_in piece.segment.kind piece.along

-- the entries from one place to the other, both included, in construction order
abbrev pub entries_of : PieceValue → List Entry
entries_of piece = between piece.from piece.to piece.segment.entries

-- entries in construction order, or in reverse
abbrev pub in_order : Bool → List Entry → List Entry
in_order true entries = entries
in_order false entries = reverse entries

-- the entries in order of travel
abbrev pub travelled_entries : PieceValue → List Entry
travelled_entries piece = in_order piece.along (entries_of piece)

-- the place in the segment of the first entry travelled
abbrev pub first_place : PieceValue → ℕ
first_place piece = if piece.along then piece.from else piece.to

-- the AS in which a piece begins, in order of travel
unfoldable pub begins_in : PieceValue → ℕ
begins_in piece = as_at (travelled_entries piece) 0

-- the AS in which a piece ends, in order of travel
unfoldable pub ends_in : PieceValue → ℕ
ends_in piece = as_at (travelled_entries piece) (length (travelled_entries piece) - 1)
