-- The language of a sequence (path policy language): which walks it allows. A word is a list of
-- hops.
use Rattle.std.specs.Prelude.{◌≡◌, ◌⊎◌, ◌<◌, List, [], ◌∷◌, ◌++◌, length}
use Rattle.std.specs.List.{AllByRecursion, flat_map}
use Rattle.policy_expr.specs.declared.hop.HopPred.{HopPred}
use Rattle.policy_expr.specs.declared.hop.WalkHop.{WalkHop}
use Rattle.policy_expr.specs.declared.node.SeqNode.{SeqNode}
use Rattle.policy_expr.specs.declared.node.SeqNode.TheVariants.{Hop, Then', Or', Optional', Repeated', OnceOrMore'}
use Rattle.policy_expr.specs.Hop.{Matches}

-- a sequence: a regular expression over hops
pub data Tree : Type 0 where
  hop : HopPred → Tree
  followed : Tree → Tree → Tree
  either : Tree → Tree → Tree
  optional : Tree → Tree
  repeated : Tree → Tree
  once_or_more : Tree → Tree

abbrev pub tree_of : {A : _} → SeqNode A → Tree
tree_of (Hop p) = hop p
tree_of (Then' p a q b) = followed (tree_of a) (tree_of b)
tree_of (Or' p a q b) = either (tree_of a) (tree_of b)
tree_of (Optional' p a) = optional (tree_of a)
tree_of (Repeated' p a) = repeated (tree_of a)
tree_of (OnceOrMore' p a) = once_or_more (tree_of a)

-- the words of a sequence. A predicate has the words of one hop that it matches. `followed` has the
-- words that can be cut into a word of each part. `*` and `+` have any number of words of their
-- item in a row, `+` at least one.
abbrev pub Lang : Tree → List WalkHop → Type 0
Lang (hop pred) word = (h : WalkHop) × (word ≡ h ∷ []) × Matches pred h
Lang (followed a b) word = (front : List WalkHop) × (back : List WalkHop) × (word ≡ front ++ back)
    × Lang a front × Lang b back
Lang (either a b) word = Lang a word ⊎ Lang b word
Lang (optional a) word = (word ≡ []) ⊎ Lang a word
Lang (repeated a) word = (words : List (List WalkHop)) × (word ≡ flat_map (λ one. one) words)
    × AllByRecursion (Lang a) words
Lang (once_or_more a) word = (words : List (List WalkHop)) × (0 < length words)
    × (word ≡ flat_map (λ one. one) words) × AllByRecursion (Lang a) words
