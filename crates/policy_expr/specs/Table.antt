-- Sequences as tables: the predicates of a sequence are numbered from left to right. The table says
-- which may come first, which last, and which right behind which.
use Rattle.std.specs.Prelude.{◌≡◌, ◌↔◌, ℕ, ◌+◌, ◌*◌, ◌<◌, ◌≤◌, true, List, [], ◌∷◌, length, Some, slice_get}
use Rattle.policy_expr.specs.declared.hop.WalkHop.{WalkHop}
use Rattle.policy_expr.specs.declared.ends.Ends.{Ends}
use Rattle.policy_expr.specs.declared.table.Line.{Line}
use Rattle.policy_expr.specs.Hop.{Matches}
use Rattle.policy_expr.specs.Sets.{Has}
use Rattle.policy_expr.specs.Language.{Tree, Lang}
use Rattle.policy_expr.specs.Reading.{node_count}

-- predicate `k` may come right behind predicate `j`
abbrev pub MayFollow : (lines : List Line) (j k : ℕ) → Type 0
MayFollow lines j k = (line : Line) × (slice_get lines j ≡ Some line) × Has line.next k

-- predicate k matches the hop
abbrev pub MeetsAt : List Line → ℕ → WalkHop → Type 0
MeetsAt lines k h = (line : Line) × (slice_get lines k ≡ Some line) × Matches line.pred h

-- if predicate `k` matched the hop before, these hops complete a word
abbrev pub After : List Line → Ends → ℕ → List WalkHop → Type 0
After lines ends k [] = Has ends.last k
After lines ends k (h ∷ w) =
    (j : ℕ) × MayFollow lines k j × MeetsAt lines j h × After lines ends j w

-- the hops are a word of the table
abbrev pub Accepts : List Line → Ends → List WalkHop → Type 0
Accepts lines ends [] = ends.has_empty ≡ true
Accepts lines ends (h ∷ w) = (k : ℕ) × Has ends.first k × MeetsAt lines k h × After lines ends k w

-- predicate `k` is in a new line
abbrev pub IsNew : (old new : List Line) (k : ℕ) → Type 0
IsNew old new k = (length old ≤ k) × (k < length new)

-- new lines were added at the end for a tree: twice their number is at most one more than the
-- tree's nodes. The old lines are as they were, the new predicates are followed by new ones only,
-- and their words are those of the tree.
pub record Adds (tree : Tree) (old new : List Line) (ends : Ends) : Type 0 where
  pub more : length old ≤ length new
  pub few : 2 * length new ≤ 2 * length old + node_count tree + 1
  pub meets : (k : ℕ) (h : WalkHop) → k < length old → MeetsAt new k h ↔ MeetsAt old k h
  pub next : (j k : ℕ) → j < length old → MayFollow new j k ↔ MayFollow old j k
  pub among : (j k : ℕ) → length old ≤ j → MayFollow new j k → IsNew old new k
  pub first : (k : ℕ) → Has ends.first k → IsNew old new k
  pub last : (k : ℕ) → Has ends.last k → IsNew old new k
  pub words : (w : List WalkHop) → Accepts new ends w ↔ Lang tree w

-- the table has the lines of this tree alone
abbrev pub IsTableOf : Tree → List Line → Ends → Type 0
IsTableOf tree lines ends = Adds tree [] lines ends
