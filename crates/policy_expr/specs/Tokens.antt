-- The tokens of a sequence's text: predicates and signs. Blanks separate tokens and have no other
-- meaning.
use Rattle.std.specs.Prelude.{ℕ, Bool, false, ◌&&◌, ◌||◌, ◌==◌, nat_le, if◌then◌else◌, List, [], ◌∷◌, map, Result, Ok, Err}
use Rattle.separators.specs.Blanks.{is_blank}
use Rattle.policy_expr.specs.declared.fault.PolicyFault.{PolicyFault}
use Rattle.policy_expr.specs.declared.hop.HopPred.{HopPred}
use Rattle.policy_expr.specs.declared.token.Token.{Token}
use Rattle.policy_expr.specs.declared.token.Token.TheVariants.{Hop, Optional, OnceOrMore, Repeated, Or, Open, Close, Other}
use Rattle.policy_expr.specs.Predicate.{predicate_at}

-- a character of predicates: a digit, a letter from a to f of either case, '-', ':', '#' or ','
abbrev pub is_mark : ℕ → Bool
is_mark b = (nat_le 48 b && nat_le b 57) || ((nat_le 97 b && nat_le b 102)
    || ((nat_le 65 b && nat_le b 70) || ((b == 45) || ((b == 58) || ((b == 35) || (b == 44))))))

-- whether the text begins with a character of predicates
abbrev pub begins_with_mark : List ℕ → Bool
begins_with_mark [] = false
begins_with_mark (b ∷ rest) = is_mark b

-- these texts, with the byte put in front of the first
abbrev pub with_byte_before : ℕ → List (List ℕ) → List (List ℕ)
with_byte_before b [] = (b ∷ []) ∷ []
with_byte_before b (first ∷ later) = (b ∷ first) ∷ later

-- the texts of the tokens: the longest runs of characters of predicates, and every other byte that
-- is no blank
unfoldable pub token_texts : List ℕ → List (List ℕ)
token_texts [] = []
token_texts (b ∷ rest) = if is_blank b then token_texts rest
    else if is_mark b && begins_with_mark rest then with_byte_before b (token_texts rest)
    else (b ∷ []) ∷ token_texts rest

-- the token of a text that was read as a predicate: the predicate, or `Other` if it is none
abbrev pub read_token : Result HopPred PolicyFault → Token
read_token (Ok pred) = Hop pred
read_token (Err e) = Other

-- the token of a sign
abbrev pub sign_token : ℕ → Token
sign_token b =
    if b == 63 then Optional else if b == 43 then OnceOrMore else if b == 42 then Repeated
    else if b == 124 then Or else if b == 40 then Open else if b == 41 then Close else Other

-- the token of a text: a predicate if it consists of characters of predicates, else a sign
abbrev pub token_of : List ℕ → Token
token_of [] = Other
token_of (b ∷ rest) = if is_mark b then read_token (predicate_at (b ∷ rest)) else sign_token b

-- the tokens of a text
abbrev pub tokens : List ℕ → List Token
tokens text = map token_of (token_texts text)
