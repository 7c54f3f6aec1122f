-- Which of several options is used (words of private functions' contracts).
use Rattle.std.specs.Prelude.{◌≡◌, ◌⊎◌, ℕ, ◌<◌, List, [], length, Option, Some, None, slice_get}
use Rattle.path_header.specs.Value.{HeaderValue}
use Rattle.path_server.specs.Lookup.{Selection}
use Rattle.policy_expr.specs.Options.{WeighedRules}
use Rattle.policy_expr.specs.Policy.{Rules, AllowsHops, HasWord}
use Rattle.policy_expr.specs.declared.hop.WalkHop.{WalkHop}
use Rattle.path_verifier.specs.Piece.{PieceValue}
use Rattle.combinator.specs.Candidate.{Question, PathValue, path_with, question_of, IsCandidate, HasNone}
use Rattle.combinator.specs.Choice.{ChosenValue}
use Rattle.combinator.specs.Answer.{IsAnswer, GoesBefore}
use Rattle.combinator.specs.inner.Group.{GroupValue}
use Rattle.combinator.specs.inner.Over.{AreFor, MaySearch}

-- the policy allows the walk
abbrev pub Allows : Rules → List WalkHop → Type 0
Allows rules walk = AllowsHops rules.acl walk × HasWord rules.sequence walk

-- the groups may be searched under each policy
abbrev pub MayChoose : (set : Selection) (src dst : ℕ) → List GroupValue → Type 0
MayChoose set src dst groups = (rules : Rules) → MaySearch (question_of set src dst rules) groups

-- the groups are of live pieces of the set, whatever the policy
abbrev pub AreForAny : (set : Selection) (src dst : ℕ) → List GroupValue → Type 0
AreForAny set src dst groups = (rules : Rules) → AreFor (question_of set src dst rules) groups

-- an option at this place goes before the best one, if there is a best one
abbrev pub IsWanted : (options : List WeighedRules) (best : Option ℕ) (place : ℕ) (option : WeighedRules)
    → Type 0
IsWanted options None place option = Unit {0}
IsWanted options (Some best) place option = (other : WeighedRules)
    → slice_get options best ≡ Some other → GoesBefore place option best other

-- no option goes before the one at this place
abbrev pub IsFirst : List WeighedRules → ℕ → Type 0
IsFirst options first = (place : ℕ) (option : WeighedRules) → slice_get options place ≡ Some option
    → ¬ (IsWanted options (Some first) place option)

-- the best option stays, or one that goes before it takes its place: none is wanted that was not
abbrev pub GoesNoLater : (options : List WeighedRules) (next best : Option ℕ) → Type 0
GoesNoLater options next best = (place : ℕ) (option : WeighedRules)
    → IsWanted options next place option → IsWanted options best place option

-- the option at this place leaves a path
pub record LeavesPath (under : WeighedRules → Question) (options : List WeighedRules) (place : ℕ)
    : Type 0 where
  pub option : WeighedRules
  pub there : slice_get options place ≡ Some option
  pub path : PathValue
  pub candidate : IsCandidate (under option) path

-- no option that goes before the best one leaves a path of these pieces
unfoldable pub LeaveNone : (under : WeighedRules → Question) (options : List WeighedRules)
    (best : Option ℕ) (pieces : List PieceValue) → Type 0
LeaveNone under options best pieces = (place : ℕ) (option : WeighedRules)
    → slice_get options place ≡ Some option → IsWanted options best place option
    → (header : HeaderValue) → ¬ (IsCandidate (under option) (path_with pieces header))

-- the option at this place allows the walk
pub record IsAllowed (options : List WeighedRules) (walk : List WalkHop) (place : ℕ) : Type 0 where
  pub option : WeighedRules
  pub there : slice_get options place ≡ Some option
  pub allows : Allows option.rules walk

-- no option that goes before the best one allows the walk
abbrev pub AllowNone : (options : List WeighedRules) (best : Option ℕ) (walk : List WalkHop) → Type 0
AllowNone options best walk = (place : ℕ) (option : WeighedRules)
    → slice_get options place ≡ Some option → IsWanted options best place option
    → ¬ (Allows option.rules walk)

-- no option that goes before the best one leaves a path
abbrev pub HaveNone : (under : WeighedRules → Question) (options : List WeighedRules)
    (best : Option ℕ) → Type 0
HaveNone under options best = (place : ℕ) (option : WeighedRules)
    → slice_get options place ≡ Some option → IsWanted options best place option
    → HasNone (under option)

-- the option at this place is used, if it leaves a path
pub record IsUnder (question : Question) (limit place weight : ℕ) (choice : ChosenValue) : Type 0 where
  pub used : choice.used ≡ Some place
  pub weighs : choice.weight ≡ weight
  pub some : 0 < length choice.paths
  pub answer : IsAnswer question limit choice.paths

abbrev pub IsChoiceOf : (question : Question) (limit place weight : ℕ) (choice : ChosenValue) → Type 0
IsChoiceOf question limit place weight choice = IsUnder question limit place weight choice
    ⊎ ((choice.used ≡ None) × (choice.paths ≡ []) × HasNone question)
