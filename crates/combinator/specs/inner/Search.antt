-- How the paths of an answer are found (words of private functions' contracts).
use Rattle.std.specs.Prelude.{◌≡◌, ◌≢◌, ℕ, ◌≤◌, zero, suc, List, [], ◌∷◌, ◌++◌, length, All, Contains}
use Rattle.std.specs.List.{AllByRecursion, flat_map}
use Rattle.std.specs.declared.cmp.Ordering.TheVariants.{Less}
use Rattle.path_header.specs.Value.{HeaderValue}
use Rattle.path_header.specs.Spelling.{info_spelling, InfoFits, HopFits}
use Rattle.path_verifier.specs.Piece.{PieceValue, HasRange, begins_in, ends_in}
use Rattle.path_server.specs.Lookup.{Selection}
use Rattle.policy_expr.specs.Policy.{Rules}
use Rattle.path_verifier.specs.Header.{field_of, header_of, info_of}
use Rattle.path_verifier.specs.Accepted.{AreLive}
use Rattle.combinator.specs.Candidate.{Question, PathValue, question_of, path_with, IsCandidate, IsOf}
use Rattle.combinator.specs.Order.{bytes_cmp, path_cmp, LastAsLong, HaveOneWalk}
use Rattle.combinator.specs.Answer.{IsBest}
use Rattle.combinator.specs.inner.Placed.{InOrder, Met}

-- the first path is no worse: it expires no earlier, and if it expires at the same time, its header
-- bytes are no greater
pub record IsNoWorse (one other : PathValue) : Type 0 where
  pub latest : LastAsLong one.pieces other.pieces
  pub least : LastAsLong other.pieces one.pieces → bytes_cmp other.header one.header ≢ Less

-- the fact holds of each list that begins with these pieces and goes on, from this AS, with one to
-- `depth` usable pieces, each of which begins where the one before it ends
unfoldable pub OfEachBehind : (List PieceValue → Type 0) → List PieceValue → ℕ → List PieceValue
    → ℕ → Type 0
OfEachBehind fact usable_pieces zero pieces at = Unit {0}
OfEachBehind fact usable_pieces (suc depth) pieces at = (piece : PieceValue)
    → Contains usable_pieces piece → begins_in piece ≡ at
    → fact (pieces ++ piece ∷ [])
    × OfEachBehind fact usable_pieces depth (pieces ++ piece ∷ []) (ends_in piece)

-- if a path of these pieces is the best for its walk, it is among the first `limit` paths, or all
-- of these come before it
unfoldable pub IsMetBy : Question → ℕ → List PathValue → List PieceValue → Type 0
IsMetBy question limit paths pieces = (header : HeaderValue)
    → IsBest question (path_with pieces header) → Met path_cmp limit paths (path_with pieces header)

-- whatever the old paths met, the new ones do
abbrev pub StillMeet : (limit : ℕ) (old new : List PathValue) → Type 0
StillMeet limit old new = (path : PathValue) → Met path_cmp limit old path
    → Met path_cmp limit new path

-- paths that are kept: in order, at most `limit`, and each the best for its walk
pub record AreKept (question : Question) (limit : ℕ) (paths : List PathValue) : Type 0 where
  pub order : InOrder path_cmp paths
  pub few : length paths ≤ limit
  pub best : All (IsBest question) paths

-- no candidate of these pieces is better than this path of the same walk
unfoldable pub IsNoBetter : Question → PathValue → List PieceValue → Type 0
IsNoBetter question path pieces = (header : HeaderValue)
    → IsCandidate question (path_with pieces header) → HaveOneWalk (path_with pieces header) path
    → IsNoWorse path (path_with pieces header)

-- the pieces of each candidate are usable pieces
abbrev pub HaveAll : Question → List PieceValue → Type 0
HaveAll question usable_pieces = (path : PathValue) → IsCandidate question path
    → All (Contains usable_pieces) path.pieces

-- the path comes before each path that begins with these pieces and has at least so many more
unfoldable pub ComesBefore : PathValue → List PieceValue → ℕ → Type 0
ComesBefore path front further = (later : List PieceValue) → All HasRange (front ++ later)
    → further ≤ length later
    → path_cmp path (path_with (front ++ later) (header_of (front ++ later))) ≡ Less

-- there are `limit` paths, and each of them comes before each path that begins with these pieces
-- and has at least so many more
unfoldable pub AreBefore : (limit : ℕ) (paths : List PathValue) (front : List PieceValue)
    (further : ℕ) → Type 0
AreBefore limit paths front further = (length paths ≡ limit)
    × AllByRecursion (λ path. ComesBefore path front further) paths

-- the bytes of the info fields of pieces
abbrev pub infos_of : List PieceValue → List ℕ
infos_of pieces = flat_map (λ piece. info_spelling (info_of piece)) pieces

-- the numbers of the piece's fields fit into their bits, and its segment has at most 63 entries
unfoldable pub HasFields : PieceValue → Type 0
HasFields piece = InfoFits (info_of piece)
    × All (λ entry. HopFits (field_of entry)) piece.segment.entries
    × (length piece.segment.entries ≤ 63)

-- the pieces of live segments of a set of which all paths between two ASes are made, whatever the
-- policy
pub record AreUsable (set : Selection) (src dst : ℕ) (pieces : List PieceValue) : Type 0 where
  pub own : All (IsOf set) pieces
  pub live : All (λ piece. AreLive set.moment (piece ∷ [])) pieces
  pub whole : (rules : Rules) → HaveAll (question_of set src dst rules) pieces
  pub fields : All HasFields pieces
