-- The grammar of sequences (path policy language): which tokens are a spelling of which tree.
-- Postfix signs bind tightest, then `|`, then following; `|` and following associate to the left.
use Rattle.std.specs.Prelude.{ℕ, ◌+◌, List, [], ◌∷◌, ◌++◌}
use Rattle.policy_expr.specs.declared.hop.HopPred.{HopPred}
use Rattle.policy_expr.specs.declared.token.Token.{Token}
use Rattle.policy_expr.specs.declared.token.Token.TheVariants as signs
use Rattle.policy_expr.specs.Tokens.{tokens}
use Rattle.policy_expr.specs.Language.{Tree, hop, followed, either, optional, repeated, once_or_more}

-- the parts of the grammar, by how tightly they bind
pub data Part : Type 0 where
  following : Part
  alternatives : Part
  item : Part

-- the tokens spell the tree as this part, with at most `depth` parentheses open at once
pub data SpellsPart : ℕ → Part → List Token → Tree → Type 0 where
  predicate : (depth : ℕ) (p : HopPred) → SpellsPart depth item (signs.Hop p ∷ []) (hop p)
  in_parentheses : (depth : ℕ) (ts : List Token) (t : Tree) → SpellsPart depth following ts t
      → SpellsPart (depth + 1) item (signs.Open ∷ (ts ++ signs.Close ∷ [])) t
  with_optional : (depth : ℕ) (ts : List Token) (t : Tree) → SpellsPart depth item ts t
      → SpellsPart depth item (ts ++ signs.Optional ∷ []) (optional t)
  with_repeated : (depth : ℕ) (ts : List Token) (t : Tree) → SpellsPart depth item ts t
      → SpellsPart depth item (ts ++ signs.Repeated ∷ []) (repeated t)
  with_once_or_more : (depth : ℕ) (ts : List Token) (t : Tree) → SpellsPart depth item ts t
      → SpellsPart depth item (ts ++ signs.OnceOrMore ∷ []) (once_or_more t)
  one_alternative : (depth : ℕ) (ts : List Token) (t : Tree) → SpellsPart depth item ts t
      → SpellsPart depth alternatives ts t
  one_more : (depth : ℕ) (ts us : List Token) (a b : Tree) → SpellsPart depth alternatives ts a
      → SpellsPart depth item us b
      → SpellsPart depth alternatives (ts ++ (signs.Or ∷ us)) (either a b)
  one_part : (depth : ℕ) (ts : List Token) (t : Tree) → SpellsPart depth alternatives ts t
      → SpellsPart depth following ts t
  behind : (depth : ℕ) (ts us : List Token) (a b : Tree) → SpellsPart depth following ts a
      → SpellsPart depth alternatives us b
      → SpellsPart depth following (ts ++ us) (followed a b)

-- the text spells the tree, with at most 32 parentheses open at once
abbrev pub SpellsSequence : List ℕ → Tree → Type 0
SpellsSequence text tree = SpellsPart 32 following (tokens text) tree
