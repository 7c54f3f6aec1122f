-- What reading a sequence answers: its tree, or the first refusal from left to right. Postfix signs
-- bind tightest, then `|`, then following; `|` and following associate to the left.
use Rattle.std.specs.Prelude.{◌≡◌, ℕ, ◌+◌, ◌-◌, ◌≤◌, ◌==◌, nat_lt, Bool, true, false, if◌then◌else◌, List, [], ◌∷◌, length, Option, Some, None, unwrap_or, Result, Ok, Err}
use Rattle.refusal.specs.declared.fault.OrMemory.{OrMemory}
use Rattle.refusal.specs.declared.fault.OrMemory.TheVariants.{Memory, Refused}
use Rattle.policy_expr.specs.declared.fault.PolicyFault.{PolicyFault}
use Rattle.policy_expr.specs.declared.fault.PolicyFault.TheVariants as faults
use Rattle.policy_expr.specs.declared.token.Token.{Token}
use Rattle.policy_expr.specs.declared.token.Token.TheVariants as signs
use Rattle.refusal.specs.Refusal.{◌>>=◌}
use Rattle.policy_expr.specs.Tokens.{tokens}
use Rattle.policy_expr.specs.Grammar.{SpellsSequence}
use Rattle.policy_expr.specs.Language.{Tree, hop, followed, either, optional, repeated, once_or_more}

-- what was read since the last open parenthesis: the part that the next item follows, and after it
-- the alternatives to which the item is added
pub record Level : Type 0 where
  pub before : Option Tree
  pub choices : Option Tree

abbrev pub new_level : Level
new_level = record { before = None; choices = None }

abbrev pub item_behind : (Tree → Tree → Tree) → Option Tree → Tree → Tree
item_behind join None item = item
item_behind join (Some before) item = join before item

-- the tree of all that was read since the last open parenthesis, with this item at its end
abbrev pub whole : Level → Tree → Tree
whole level item = item_behind followed level.before (item_behind either level.choices item)

-- the level for the next item: if there is an item already, the next one follows it; after a `|` it
-- is one more alternative
abbrev pub next_level : Level → Option Tree → Level
next_level level None = level
next_level level (Some item) = record { before = Some (whole level item); choices = None }

abbrev pub next_choice : Level → Tree → Level
next_choice level item =
    record { before = level.before; choices = Some (item_behind either level.choices item) }

-- the result of reading the remaining tokens. `levels` has a level for each open parenthesis, the
-- innermost first; `level` is the current one. `item` is the item at its end, or none if an item
-- has to come.
abbrev pub read_rest : List Level → Level → Option Tree → List Token → Result Tree PolicyFault
read_rest up level item (signs.Hop p ∷ ts) = read_rest up (next_level level item) (Some (hop p)) ts
read_rest up level item (signs.Open ∷ ts) =
    if nat_lt (length up) 32 then read_rest (next_level level item ∷ up) new_level None ts
    else Err faults.TooDeep
read_rest up level None [] = Err faults.UnexpectedEnd
read_rest up level None (t ∷ ts) = Err faults.BadPredicate
read_rest [] level (Some item) [] = Ok (whole level item)
read_rest (outer ∷ up) level (Some item) [] = Err faults.Unbalanced
read_rest up level (Some item) (signs.Optional ∷ ts) = read_rest up level (Some (optional item)) ts
read_rest up level (Some item) (signs.OnceOrMore ∷ ts) =
    read_rest up level (Some (once_or_more item)) ts
read_rest up level (Some item) (signs.Repeated ∷ ts) = read_rest up level (Some (repeated item)) ts
read_rest up level (Some item) (signs.Or ∷ ts) = read_rest up (next_choice level item) None ts
read_rest [] level (Some item) (signs.Close ∷ ts) = Err faults.Unbalanced
read_rest (outer ∷ up) level (Some item) (signs.Close ∷ ts) =
    read_rest up outer (Some (whole level item)) ts
read_rest up level (Some item) (signs.Other ∷ ts) = Err faults.BadPredicate

-- the tree of a text, of any size
abbrev pub tree_at : List ℕ → Result Tree PolicyFault
tree_at text = read_rest [] new_level None (tokens text)

-- the number of nodes of a tree
abbrev pub node_count : Tree → ℕ
node_count (hop pred) = 1
node_count (followed a b) = node_count a + node_count b + 1
node_count (either a b) = node_count a + node_count b + 1
node_count (optional a) = node_count a + 1
node_count (repeated a) = node_count a + 1
node_count (once_or_more a) = node_count a + 1

-- the sequence of a text; more than 256 nodes are TooLarge
abbrev pub sequence_at : List ℕ → Result Tree PolicyFault
sequence_at text = do
  tree ← tree_at text
  if nat_lt 256 (node_count tree) then Err faults.TooLarge else Ok tree

-- ---- which refusal comes first, and what calls answer

-- the first fault of these tokens, with `depth` parentheses open; the Boolean says whether an item
-- stands right before them
abbrev pub fault_at : ℕ → Bool → List Token → Option PolicyFault
fault_at depth false [] = Some faults.UnexpectedEnd
fault_at depth true [] = if depth == 0 then None else Some faults.Unbalanced
fault_at depth item (signs.Hop p ∷ ts) = fault_at depth true ts
fault_at depth item (signs.Open ∷ ts) =
    if nat_lt depth 32 then fault_at (depth + 1) false ts else Some faults.TooDeep
fault_at depth false (t ∷ ts) = Some faults.BadPredicate
fault_at depth true (signs.Or ∷ ts) = fault_at depth false ts
fault_at depth true (signs.Close ∷ ts) =
    if depth == 0 then Some faults.Unbalanced else fault_at (depth - 1) true ts
fault_at depth true (signs.Other ∷ ts) = Some faults.BadPredicate
fault_at depth true (t ∷ ts) = fault_at depth true ts

-- the error of a text: its first fault, or TooLarge if it has none. Memory can run out only if the
-- text spells a sequence of at most 256 nodes.
abbrev pub IsTextRefusal : List ℕ → OrMemory PolicyFault → Type 0
IsTextRefusal text Memory = (tree : Tree) × SpellsSequence text tree × (node_count tree ≤ 256)
IsTextRefusal text (Refused fault) = fault
    ≡ unwrap_or (fault_at 0 false (tokens text)) faults.TooLarge
