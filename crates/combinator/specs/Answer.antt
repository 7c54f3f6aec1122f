-- The answer to a question: which paths it lists, and in which order.
use Rattle.std.specs.Prelude.{◌≡◌, ◌≢◌, ◌⊎◌, ℕ, ◌<◌, ◌≤◌, List, [], length, All, AllPairs, Any, Option, Some, None, slice_get, ◌&&◌, nat_le, Bool}
use Rattle.std.specs.declared.cmp.Ordering.TheVariants.{Less}
use Rattle.path_server.specs.Lookup.{Selection}
use Rattle.policy_expr.specs.Options.{WeighedRules}
use Rattle.combinator.specs.Candidate.{Question, PathValue, IsCandidate, HasNone}
use Rattle.combinator.specs.Order.{bytes_cmp, path_cmp, LastAsLong, HaveOneWalk}

-- whether a request may be for at most this number of paths: 1 to 64
abbrev pub is_limit : ℕ → Bool
is_limit limit = nat_le 1 limit && nat_le limit 64

-- the path is the best for its walk: among the candidates of the same walk none expires later, and
-- none that expires at the same time has smaller header bytes
pub record IsBest (question : Question) (path : PathValue) : Type 0 where
  pub candidate : IsCandidate question path
  pub latest : (other : PathValue) → IsCandidate question other → HaveOneWalk other path
      → LastAsLong path.pieces other.pieces
  pub least : (other : PathValue) → IsCandidate question other → HaveOneWalk other path
      → LastAsLong other.pieces path.pieces → bytes_cmp other.header path.header ≢ Less

-- the path is left out because the answer is full: it has as many paths as the limit, and all of
-- them come before the best path of this walk
pub record IsLeftOut (question : Question) (limit : ℕ) (paths : List PathValue) (path : PathValue)
    : Type 0 where
  pub full : length paths ≡ limit
  pub best : PathValue
  pub is_best : IsBest question best
  pub same : HaveOneWalk best path
  pub behind : All (λ one. path_cmp one best ≡ Less) paths

-- each path of the answer is the best for its walk; no two have the same walk; they are in order,
-- and no more than the limit. Each candidate's walk is in the answer, unless the answer is full
-- before it
pub record IsAnswer (question : Question) (limit : ℕ) (paths : List PathValue) : Type 0 where
  pub best : All (IsBest question) paths
  pub once : AllPairs (λ one other. ¬ (HaveOneWalk one other)) paths
  pub ordered : AllPairs (λ one other. path_cmp one other ≡ Less) paths
  pub few : length paths ≤ limit
  pub whole : (path : PathValue) → IsCandidate question path
      → Any (λ one. HaveOneWalk one path) paths ⊎ IsLeftOut question limit paths path

-- an answer: the policy option that was used, and the paths
pub record AnswerValue : Type 0 where
  pub used : Option ℕ
  pub paths : List PathValue

-- ---- policy options

-- the question under one of the policy options
abbrev pub question_under : (set : Selection) (src dst : ℕ) (option : WeighedRules) → Question
question_under set src dst option = record { set = set; src = src; dst = dst; rules = option.rules }

-- an option comes before another: its weight is larger, or it is equal and the option is listed
-- first
abbrev pub GoesBefore : (i : ℕ) (one : WeighedRules) (j : ℕ) (other : WeighedRules) → Type 0
GoesBefore i one j other = (other.weight < one.weight) ⊎ ((other.weight ≡ one.weight) × (i < j))

-- this option is used: it leaves a path, and every option before it leaves none
pub record IsUsed (set : Selection) (src dst : ℕ) (options : List WeighedRules) (limit : ℕ)
    (used : ℕ) (paths : List PathValue) : Type 0 where
  pub option : WeighedRules
  pub there : slice_get options used ≡ Some option
  pub some : 0 < length paths
  pub answer : IsAnswer (question_under set src dst option) limit paths
  pub first : (j : ℕ) (other : WeighedRules) → slice_get options j ≡ Some other
      → GoesBefore j other used option → HasNone (question_under set src dst other)

-- the answer under several options: that of the used option, or no path if no option leaves one
abbrev pub AnswersWith : (set : Selection) (src dst : ℕ) (options : List WeighedRules) (limit : ℕ)
    (used : Option ℕ) (paths : List PathValue) → Type 0
AnswersWith set src dst options limit None paths =
    (paths ≡ []) × All (λ option. HasNone (question_under set src dst option)) options
AnswersWith set src dst options limit (Some one) paths = IsUsed set src dst options limit one paths
