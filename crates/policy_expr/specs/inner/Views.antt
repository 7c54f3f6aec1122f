-- The values of a reader's data while it reads, and the weights of tokens while they are judged.
use Rattle.std.specs.Prelude.{◌≡◌, ℕ, List, ◌++◌, map, reverse, Option, option_map, Result, IsOk}
use Rattle.policy_expr.specs.declared.fault.PolicyFault.{PolicyFault}
use Rattle.policy_expr.specs.declared.room.Tokens.{Tokens}
use Rattle.policy_expr.specs.declared.reader.Joint.{Joint}
use Rattle.policy_expr.specs.declared.reader.Joint.TheVariants.{Alternative, Following}
use Rattle.policy_expr.specs.declared.reader.Level.{Level}
use Rattle.policy_expr.specs.declared.reader.Reader.{Reader}
use Rattle.policy_expr.specs.declared.token.Token.{Token}
use Rattle.policy_expr.specs.declared.token.Token.TheVariants as signs
use Rattle.policy_expr.specs.Tokens.{tokens}
use Rattle.policy_expr.specs.Language.{Tree, followed, either, tree_of}
use Rattle.policy_expr.specs.Reading as reading
use Rattle.policy_expr.specs.Reading.{read_rest}

-- the tokens that are still to be taken
abbrev pub remaining : Tokens → List Token
remaining later = later.known.now ++ tokens later.rest.now

abbrev pub level_of : {A : _} → Level A → reading.Level
level_of level =
    record { before = option_map tree_of level.before; choices = option_map tree_of level.choices }

-- the tree of what was read before and of an item, joined in this way
abbrev pub joined_by : Joint → Tree → Tree → Tree
joined_by Alternative = either
joined_by Following = followed

-- the levels that a reader keeps with the innermost last, as values with the innermost first
abbrev pub levels_of : {A : _} → List (Level A) → List reading.Level
levels_of levels = map level_of (reverse levels)

-- the result of reading the remaining tokens from this state, with this item at its end
abbrev pub gives_behind : {A : _} → Reader A → Option Tree → List Token → Result Tree PolicyFault
gives_behind reader item rest =
    read_rest (levels_of reader.levels.items) (level_of reader.level) item rest

-- the result of reading the remaining tokens from this state
abbrev pub gives : {A : _} → Reader A → List Token → Result Tree PolicyFault
gives reader rest = gives_behind reader (option_map tree_of reader.item) rest

-- some remaining tokens give a tree
abbrev pub CanGoOn : (List Token → Result Tree PolicyFault) → Type 0
CanGoOn given = (rest : List Token) × IsOk (given rest)

-- the step of a reader to the state `next` is right: for all remaining tokens, the result is the
-- same before and after it
abbrev pub GoesOn : {A : _} → (List Token → Result Tree PolicyFault) → Reader A → Type 0
GoesOn given next = (rest : List Token) → given rest ≡ gives next rest

-- what a token adds to the weight of a sequence: a predicate counts twice, and each sign behind an
-- item once, so that the weight is one more than the number of nodes
abbrev pub weight_of : Token → ℕ
weight_of (signs.Hop p) = 2
weight_of signs.Or = 0
weight_of signs.Open = 0
weight_of signs.Close = 0
weight_of signs.Other = 0
weight_of sign = 1
