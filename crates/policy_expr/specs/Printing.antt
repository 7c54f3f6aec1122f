-- The printed text of a sequence: it has no parentheses that the tree can do without, one space for
-- following, and no space around `|`.
use Rattle.std.specs.Prelude.{ℕ, ◌+◌, ◌<◌, ◌≤◌, Bool, ◌^◌, ◌==◌, ◌&&◌, nat_lt, if◌then◌else◌, codes, List, [], ◌∷◌, ◌++◌}
use Rattle.std.specs.Fmt.{decimal}
use Rattle.isd_as.specs.Address.{isd_of, as_number_of, canonical}
use Rattle.policy_expr.specs.declared.hop.HopPred.{HopPred}
use Rattle.policy_expr.specs.declared.hop.Interfaces.{Interfaces}
use Rattle.policy_expr.specs.declared.hop.Interfaces.TheVariants.{Any, Either, Both}
use Rattle.policy_expr.specs.declared.token.Token.{Token}
use Rattle.policy_expr.specs.declared.token.Token.TheVariants as signs
use Rattle.policy_expr.specs.Acl.{says_nothing}
use Rattle.policy_expr.specs.Grammar.{SpellsSequence}
use Rattle.policy_expr.specs.Reading.{node_count}
use Rattle.policy_expr.specs.Language.{Tree, hop, followed, either, optional, repeated, once_or_more}

-- the text of a predicate's interfaces
abbrev pub interfaces_text : Interfaces → List ℕ
interfaces_text Any = []
interfaces_text (Either n) = codes "#" ++ decimal n
interfaces_text (Both m n) = codes "#" ++ (decimal m ++ (codes "," ++ decimal n))

-- the text of a predicate: the ISD alone if the AS and the interfaces are wildcards
abbrev pub predicate_text : HopPred → List ℕ
predicate_text pred = if (as_number_of pred.ia == 0) && says_nothing pred.interfaces
    then decimal (isd_of pred.ia)
    else canonical pred.ia ++ interfaces_text pred.interfaces

-- the text, in parentheses if they are wanted
abbrev pub in_parentheses : Bool → List ℕ → List ℕ
in_parentheses wanted text = if wanted then codes "(" ++ (text ++ codes ")") else text

-- the text of a tree where a part of at least this tightness is needed: 0 is following, 1 is `|`, 2
-- is an item. A tree that binds less tightly gets parentheses.
abbrev pub printed_as : ℕ → Tree → List ℕ
printed_as least (hop pred) = predicate_text pred
printed_as least (followed a b) =
    in_parentheses (nat_lt 0 least) (printed_as 0 a ++ (codes " " ++ printed_as 1 b))
printed_as least (either a b) =
    in_parentheses (nat_lt 1 least) (printed_as 1 a ++ (codes "|" ++ printed_as 2 b))
printed_as least (optional a) = printed_as 2 a ++ codes "?"
printed_as least (repeated a) = printed_as 2 a ++ codes "*"
printed_as least (once_or_more a) = printed_as 2 a ++ codes "+"

-- the text of a whole sequence
abbrev pub sequence_text : Tree → List ℕ
sequence_text tree = printed_as 0 tree

-- the number of opening parentheses among these tokens
abbrev pub open_count : List Token → ℕ
open_count [] = 0
open_count (signs.Open ∷ tokens) = open_count tokens + 1
open_count (token ∷ tokens) = open_count tokens

-- interfaces as reading gives them: numbers of 16 bits, not all of them 0
abbrev pub AreInterfaces : Interfaces → Type 0
AreInterfaces Any = Unit {0}
AreInterfaces (Either n) = (0 < n) × (n < 2 ^ 16)
AreInterfaces (Both m n) = (0 < m + n) × (m < 2 ^ 16) × (n < 2 ^ 16)

-- a predicate as reading gives it
abbrev pub IsPredicate : HopPred → Type 0
IsPredicate pred = (pred.ia < 2 ^ 64) × AreInterfaces pred.interfaces

-- the rules of a sequence: at most 256 nodes, and its printed text spells it, so that reading that
-- text gives it back
pub record IsSequence (tree : Tree) : Type 0 where
  pub small : node_count tree ≤ 256
  pub spelled : SpellsSequence (sequence_text tree) tree
