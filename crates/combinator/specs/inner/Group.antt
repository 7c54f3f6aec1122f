-- Groups of pieces that are alike, and the best list of pieces of some groups (words of private
-- functions' contracts).
use Rattle.std.specs.Prelude.{◌≢◌, ◌⊎◌, ℕ, ◌≤◌, ◌==◌, Bool, List, [], ◌∷◌, map, All, Contains}
use Rattle.std.specs.List.{flat_map}
use Rattle.std.specs.declared.cmp.Ordering.{Ordering}
use Rattle.std.specs.declared.cmp.Ordering.TheVariants.{Greater}
use Rattle.std.specs.Ordering.{nat_cmp, ordering_then}
use Rattle.std.specs.Cmp.Lexicographic.{slice_cmp}
use Rattle.path_header.specs.Spelling.{info_spelling, hop_spelling}
use Rattle.path_verifier.specs.Piece.{PieceValue, begins_in}
use Rattle.path_verifier.specs.Header.{info_of, fields_of}
use Rattle.path_verifier.specs.Accepted.{LastTo}
use Rattle.combinator.specs.inner.Search.{HasFields}
use Rattle.combinator.specs.inner.Alike.{IsUsable, AreAlike}
use Rattle.combinator.specs.inner.UsablePieces.{info_number}

-- pieces that are alike, and one of them
pub record GroupValue : Type 0 where
  pub head : PieceValue
  pub pieces : List PieceValue

abbrev pub group_with : PieceValue → List PieceValue → GroupValue
group_with head pieces = record { head = head; pieces = pieces }

-- one piece of each group
abbrev pub heads_of : List GroupValue → List PieceValue
heads_of groups = map (λ (group : GroupValue). group.head) groups

-- the pieces may occur in paths, and are alike, the head among them
pub record IsGroup (group : GroupValue) : Type 0 where
  pub head : IsUsable group.head
  pub there : Contains group.pieces group.head
  pub alike : All (AreAlike group.head) group.pieces
  pub usable : All IsUsable group.pieces
  pub fields : All HasFields group.pieces

-- the bytes of a piece's info field, and of its hop fields
abbrev pub info_bytes : PieceValue → List ℕ
info_bytes piece = info_spelling (info_of piece)

abbrev pub hop_bytes : PieceValue → List ℕ
hop_bytes piece = flat_map hop_spelling (fields_of piece)

-- the order of pieces in a group: by info field, then by hop fields
abbrev pub fields_cmp : (one other : PieceValue) → Ordering
fields_cmp one other = ordering_then (slice_cmp nat_cmp (info_bytes one) (info_bytes other))
    (slice_cmp nat_cmp (hop_bytes one) (hop_bytes other))

-- the pieces are of the groups, one of each
abbrev pub AreOf : List GroupValue → List PieceValue → Type 0
AreOf [] [] = Unit {0}
AreOf [] (piece ∷ pieces) = ⊥
AreOf (group ∷ groups) [] = ⊥
AreOf (group ∷ groups) (piece ∷ pieces) = Contains group.pieces piece × AreOf groups pieces

-- no piece of the group lasts beyond this half second
abbrev pub IsOver : ℕ → GroupValue → Type 0
IsOver half group = (piece : PieceValue) → Contains group.pieces piece
    → (later : ℕ) → LastTo later (piece ∷ []) → later ≤ half

-- a piece of the group lasts to this half second
abbrev pub HasOneTo : ℕ → GroupValue → Type 0
HasOneTo half group = (piece : PieceValue) × Contains group.pieces piece × LastTo half (piece ∷ [])

-- the info fields of the group's pieces are no less than this number
abbrev pub HasInfosFrom : ℕ → GroupValue → Type 0
HasInfosFrom least group = (piece : PieceValue) → Contains group.pieces piece
    → least ≤ info_number piece

-- the info fields of the pieces of each group are no less than the number at the group's place
abbrev pub HaveInfosFrom : List ℕ → List GroupValue → Type 0
HaveInfosFrom [] [] = Unit {0}
HaveInfosFrom [] (group ∷ groups) = ⊥
HaveInfosFrom (least ∷ later) [] = ⊥
HaveInfosFrom (least ∷ later) (group ∷ groups) = HasInfosFrom least group
    × HaveInfosFrom later groups

-- of one of the groups no piece lasts beyond this half second
abbrev pub IsOneOver : ℕ → List GroupValue → Type 0
IsOneOver half [] = ⊥
IsOneOver half (group ∷ groups) = IsOver half group ⊎ IsOneOver half groups

-- the piece is one of these and lasts to this half second, and none of these is less
pub record IsLeastAmong (half : ℕ) (pieces : List PieceValue) (piece : PieceValue) : Type 0 where
  pub there : Contains pieces piece
  pub lasts : LastTo half (piece ∷ [])
  pub least : (other : PieceValue) → Contains pieces other → LastTo half (other ∷ [])
      → fields_cmp piece other ≢ Greater

-- the piece is such, of the group
abbrev pub IsLeastUntil : ℕ → GroupValue → PieceValue → Type 0
IsLeastUntil half group piece = IsLeastAmong half group.pieces piece

-- the pieces are such, one of each group
abbrev pub AreLeastUntil : ℕ → List GroupValue → List PieceValue → Type 0
AreLeastUntil half [] [] = Unit {0}
AreLeastUntil half [] (piece ∷ pieces) = ⊥
AreLeastUntil half (group ∷ groups) [] = ⊥
AreLeastUntil half (group ∷ groups) (piece ∷ pieces) =
    IsLeastUntil half group piece × AreLeastUntil half groups pieces

-- the best choice from groups: it lasts as long as any choice, and is the least of those that do
pub record IsBestOf (groups : List GroupValue) (pieces : List PieceValue) : Type 0 where
  pub half : ℕ
  pub over : IsOneOver half groups
  pub least : AreLeastUntil half groups pieces

-- the AS in which a group begins, and whether it is this one
abbrev pub group_begins : GroupValue → ℕ
group_begins group = begins_in group.head

abbrev pub begins_with : ℕ → GroupValue → Bool
begins_with at group = group_begins group == at
