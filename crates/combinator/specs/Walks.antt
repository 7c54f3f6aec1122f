-- The walks of the paths between two ASes.
use Rattle.std.specs.Prelude.{◌≡◌, ℕ, ◌<◌, ◌≤◌, List, length, All, AllPairs, Contains}
use Rattle.std.specs.declared.cmp.Ordering.TheVariants.{Less}
use Rattle.policy_expr.specs.declared.hop.WalkHop.{WalkHop}
use Rattle.path_verifier.specs.Walk.{walk_of}
use Rattle.combinator.specs.Candidate.{Question, PathValue, IsCandidate}
use Rattle.combinator.specs.Order.{walk_cmp}

-- a path that may be sent has this walk
pub record IsWalkOf (question : Question) (walk : List WalkHop) : Type 0 where
  pub path : PathValue
  pub candidate : IsCandidate question path
  pub same : walk_of path.pieces ≡ walk

-- walks of paths that may be sent, each once, in the order of walks: all of them, unless there are
-- as many as the limit
pub record AreWalks (question : Question) (limit : ℕ) (walks : List (List WalkHop)) : Type 0 where
  pub each : All (IsWalkOf question) walks
  pub ordered : AllPairs (λ one other. walk_cmp one other ≡ Less) walks
  pub few : length walks ≤ limit
  pub whole : length walks < limit → (path : PathValue) → IsCandidate question path
      → Contains walks (walk_of path.pieces)
