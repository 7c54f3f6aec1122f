-- Trees whose texts are read again: how deep the parentheses of their texts are, and their
-- predicates as they are read.
use Rattle.std.proofs.Common.{ℕ, ◌+◌, ◌≤◌, max, Bool}
use Rattle.std.specs.Prelude.{nat_lt, if◌then◌else◌}
use Rattle.policy_expr.specs.Reading.{node_count}
use Rattle.policy_expr.specs.Language.{Tree, hop, followed, either, optional, repeated, once_or_more}
use Rattle.policy_expr.specs.Printing.{IsPredicate}

-- how tight a tree binds: following least, then `|`
abbrev pub strength : Tree → ℕ
strength (hop pred) = 2
strength (followed a b) = 0
strength (either a b) = 1
strength (optional a) = 2
strength (repeated a) = 2
strength (once_or_more a) = 2

-- one more where the text stands in parentheses
abbrev pub nested : Bool → ℕ → ℕ
nested wanted depth = if wanted then depth + 1 else depth

-- how deep the parentheses of a tree's text are
abbrev pub depth : Tree → ℕ
depth (hop pred) = 0
depth (followed a b) = max (depth a) (nested (nat_lt (strength b) 1) (depth b))
depth (either a b) = max (nested (nat_lt (strength a) 1) (depth a)) (nested (nat_lt (strength b) 2) (depth b))
depth (optional a) = nested (nat_lt (strength a) 2) (depth a)
depth (repeated a) = nested (nat_lt (strength a) 2) (depth a)
depth (once_or_more a) = nested (nat_lt (strength a) 2) (depth a)

-- each predicate is as it is read
abbrev pub ArePredicates : Tree → Type 0
ArePredicates (hop pred) = IsPredicate pred
ArePredicates (followed a b) = ArePredicates a × ArePredicates b
ArePredicates (either a b) = ArePredicates a × ArePredicates b
ArePredicates (optional a) = ArePredicates a
ArePredicates (repeated a) = ArePredicates a
ArePredicates (once_or_more a) = ArePredicates a

-- at most 256 nodes, 32 parentheses open at once, predicates as they are read
pub record IsReadable (tree : Tree) : Type 0 where
  pub small : node_count tree ≤ 256
  pub shallow : depth tree ≤ 32
  pub predicates : ArePredicates tree
