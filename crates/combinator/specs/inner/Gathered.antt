-- How the walks of paths are gathered (words of private functions' contracts).
use Rattle.std.specs.Prelude.{◌≡◌, ◌⊎◌, ℕ, ◌≤◌, List, [], ◌∷◌, ◌++◌, length, map, All, Contains, Vec}
use Rattle.std.specs.declared.alloc.Global.{Global}
use Rattle.path_header.specs.Value.{HeaderValue}
use Rattle.policy_expr.specs.declared.hop.WalkHop.{WalkHop}
use Rattle.path_verifier.specs.Piece.{PieceValue}
use Rattle.path_verifier.specs.Walk.{walk_of}
use Rattle.combinator.specs.Candidate.{Question, IsCandidate, path_with}
use Rattle.combinator.specs.Order.{walk_cmp}
use Rattle.combinator.specs.Walks.{IsWalkOf}
use Rattle.combinator.specs.inner.Group.{GroupValue, heads_of}
use Rattle.combinator.specs.inner.Placed.{InOrder}

-- the hops of each walk
abbrev pub hops_in : List (Vec WalkHop Global) → List (List WalkHop)
hops_in walks = map (λ walk. walk.items) walks

-- the walk is listed, or the list is full
abbrev pub HasWalk : (limit : ℕ) (walks : List (List WalkHop)) → List WalkHop → Type 0
HasWalk limit walks walk = (length walks ≡ limit) ⊎ Contains walks walk

-- if a path of these pieces may be sent, its walk is listed, or the list is full
unfoldable pub IsListed : Question → (limit : ℕ) (walks : List (List WalkHop)) → List PieceValue → Type 0
IsListed question limit walks pieces = (header : HeaderValue)
    → IsCandidate question (path_with pieces header) → HasWalk limit walks (walk_of pieces)

-- whatever the old list had, the new one has
abbrev pub StillList : (limit : ℕ) (old new : List (List WalkHop)) → Type 0
StillList limit old new = (walk : List WalkHop) → HasWalk limit old walk → HasWalk limit new walk

-- the walk is that of these groups but for the last, which is this one
pub record GoesOnTo (walk : List WalkHop) (group : GroupValue) (groups : List GroupValue)
    : Type 0 where
  pub front : List GroupValue
  pub same : groups ≡ front ++ group ∷ []
  pub own : walk ≡ walk_of (heads_of front)

-- walks that were gathered: in order, at most `limit`, and each of a path that may be sent
pub record AreGathered (question : Question) (limit : ℕ) (walks : List (List WalkHop)) : Type 0 where
  pub order : InOrder walk_cmp walks
  pub few : length walks ≤ limit
  pub each : All (IsWalkOf question) walks
