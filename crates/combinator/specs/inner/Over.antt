-- Searching over groups of pieces (words of private functions' contracts).
use Rattle.std.specs.Prelude.{◌≡◌, ℕ, zero, suc, List, [], ◌∷◌, ◌++◌, length, All, Contains}
use Rattle.std.specs.List.{AllByRecursion}
use Rattle.path_verifier.specs.Piece.{PieceValue, begins_in, ends_in}
use Rattle.path_verifier.specs.Walk.{walk_of}
use Rattle.path_verifier.specs.Accepted.{AreLive}
use Rattle.combinator.specs.Candidate.{Question, IsOf, AreSpelled}
use Rattle.combinator.specs.inner.Search.{HaveAll}
use Rattle.combinator.specs.inner.UsablePieces.{AreIn}
use Rattle.combinator.specs.inner.Group.{GroupValue, IsGroup, AreOf, heads_of}

-- each usable piece is in a group
abbrev pub AreGrouped : List GroupValue → List PieceValue → Type 0
AreGrouped groups usable_pieces = (piece : PieceValue) → Contains usable_pieces piece
    → (group : GroupValue) × Contains groups group × Contains group.pieces piece

-- the groups are a division of these pieces: each piece is in one of them, and they have no others
pub record AreGroupsOf (groups : List GroupValue) (pieces : List PieceValue) : Type 0 where
  pub each : All IsGroup groups
  pub grouped : AreGrouped groups pieces
  pub within : All (λ group. AreIn group.pieces pieces) groups

-- the fact holds of each list that begins with these groups and goes on, from this AS, with one to
-- `depth` groups, each of which begins where the one before it ends
unfoldable pub OfEachOver : (List GroupValue → Type 0) → List GroupValue → ℕ → List GroupValue
    → ℕ → Type 0
OfEachOver fact groups zero front at = Unit {0}
OfEachOver fact groups (suc depth) front at = (group : GroupValue)
    → Contains groups group → begins_in group.head ≡ at
    → fact (front ++ group ∷ [])
    × OfEachOver fact groups depth (front ++ group ∷ []) (ends_in group.head)

-- the fact holds of each list of one piece of each group
abbrev pub OfChoices : (List PieceValue → Type 0) → List GroupValue → Type 0
OfChoices fact groups = (pieces : List PieceValue) → AreOf groups pieces → fact pieces

-- all pieces of the groups are live; and all are of the question's segments
abbrev pub AreLiveGroups : ℕ → List GroupValue → Type 0
AreLiveGroups now groups = AllByRecursion (λ (group : GroupValue). All
    (λ piece. AreLive now (piece ∷ [])) group.pieces) groups

abbrev pub AreOwnGroups : Question → List GroupValue → Type 0
AreOwnGroups question groups = AllByRecursion (λ (group : GroupValue). All
    (IsOf question.set) group.pieces) groups

-- the groups are of live pieces of the question's segments
pub record AreFor (question : Question) (groups : List GroupValue) : Type 0 where
  pub are : AllByRecursion IsGroup groups
  pub live : AreLiveGroups question.set.moment groups
  pub own : AreOwnGroups question groups

-- the place, in the walk of a list of groups, of the hop at which it ends: the first where it is
-- empty
abbrev pub IsEndOf : ℕ → List GroupValue → Type 0
IsEndOf place [] = place ≡ 0
IsEndOf place (group ∷ later) = suc place ≡ length (walk_of (heads_of (group ∷ later)))

-- what a search begins with: the groups of all pieces of which the question's candidates are made,
-- and candidates whose headers are spelled
pub record MaySearch (question : Question) (groups : List GroupValue) : Type 0 where
  pub usable_pieces : List PieceValue
  pub are : AreGroupsOf groups usable_pieces
  pub own : All (IsOf question.set) usable_pieces
  pub live : All (λ piece. AreLive question.set.moment (piece ∷ [])) usable_pieces
  pub whole : HaveAll question usable_pieces
  pub spelled : AreSpelled question
