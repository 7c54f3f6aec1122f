-- Which paths known segments give between two ASes (draft-dekater-scion-dataplane, segment
-- combinations).
use Rattle.std.specs.Prelude.{ℕ, List, All, Contains}
use Rattle.path_segment.specs.Chain.{Chain}
use Rattle.path_header.specs.Value.{HeaderValue}
use Rattle.path_header.specs.Spelling.{SpellsHeader, spelling}
use Rattle.path_server.specs.Lookup.{Selection}
use Rattle.policy_expr.specs.Policy.{Rules}
use Rattle.path_verifier.specs.declared.kind.PieceKind.{PieceKind}
use Rattle.path_verifier.specs.declared.kind.PieceKind.TheVariants.{Up, Core, Down}
use Rattle.path_verifier.specs.Piece.{PieceValue, kind_of}
use Rattle.path_verifier.specs.Accepted.{request_of, IsAccepted}

-- a question: the known segments, the ends of the path, and the policy
pub record Question : Type 0 where
  pub set : Selection
  pub src : ℕ
  pub dst : ℕ
  pub rules : Rules

abbrev pub question_of : (set : Selection) (src dst : ℕ) (rules : Rules) → Question
question_of set src dst rules = record { set = set; src = src; dst = dst; rules = rules }

-- a path of an answer: its pieces in order of travel, and its header
pub record PathValue : Type 0 where
  pub pieces : List PieceValue
  pub header : HeaderValue

abbrev pub path_with : List PieceValue → HeaderValue → PathValue
path_with pieces header = record { pieces = pieces; header = header }

-- the path may be sent: the verifier accepts it for some ends, some second and some policy
pub record MaySend (path : PathValue) : Type 0 where
  pub src : ℕ
  pub dst : ℕ
  pub moment : ℕ
  pub rules : Rules
  pub accepted : IsAccepted (request_of path.pieces path.header src dst moment rules)

-- the segments for pieces of this kind
abbrev pub segments_of : Selection → PieceKind → List Chain
segments_of set Up = set.ups
segments_of set Core = set.cores
segments_of set Down = set.downs

-- the piece is of a segment of the set, from the list for its kind
abbrev pub IsOf : Selection → PieceValue → Type 0
IsOf set piece = Contains (segments_of set (kind_of piece)) piece.segment

-- the pieces are of the set, and the path may be sent between the question's ends at the set's
-- second under the policy
pub record IsCandidate (question : Question) (path : PathValue) : Type 0 where
  pub own : All (IsOf question.set) path.pieces
  pub accepted : IsAccepted (request_of path.pieces path.header question.src question.dst
      question.set.moment question.rules)

-- the question has no candidate
abbrev pub HasNone : Question → Type 0
HasNone question = (path : PathValue) → ¬ (IsCandidate question path)

-- the header of each candidate is one of the grammar: its numbers fit into their bits
abbrev pub AreSpelled : Question → Type 0
AreSpelled question = (path : PathValue) → IsCandidate question path
    → SpellsHeader (spelling path.header) path.header
