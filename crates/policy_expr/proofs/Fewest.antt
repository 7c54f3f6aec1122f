-- No text that spells a tree opens fewer parentheses than the one that is printed.
use Rattle.std.proofs.Common.{◌≡◌, ℕ, ◌+◌, ◌≤◌, Bool, true, false, nat_lt, if◌then◌else◌, List, [], ◌∷◌, ◌++◌, refl, ap, arith}
use Rattle.std.proofs.lemmas.Bool.{le-ltb}
use Rattle.policy_expr.specs.declared.token.Token.{Token}
use Rattle.policy_expr.specs.declared.token.Token.TheVariants as signs
use Rattle.policy_expr.specs.Grammar.{Part, following, alternatives, item, SpellsPart, SpellsSequence, predicate, in_parentheses, with_optional, with_repeated, with_once_or_more, one_alternative, one_more, one_part, behind}
use Rattle.policy_expr.specs.Printing.{IsSequence, open_count, sequence_text}
use Rattle.policy_expr.specs.Tokens.{tokens}
use Rattle.policy_expr.specs.Language.{Tree, hop, followed, either, optional, repeated, once_or_more}
use Rattle.policy_expr.proofs.Readable.{strength}
use Rattle.policy_expr.proofs.Again.{closed_in, tokens_of}
use Rattle.policy_expr.proofs.Kept.{read_is_sequence}
use Rattle.policy_expr.proofs.Printed.{printed_tokens}
use Rattle.policy_expr.proofs.Sequences.{sequence_again}

-- one pair where the text stands in parentheses
abbrev pairs : Bool → ℕ
pairs wanted = if wanted then 1 else 0

pairs_few : (wanted : Bool) → pairs wanted ≤ 1
pairs_few false = omega arith
pairs_few true = omega arith

-- how tight a tree must bind to be such a part without parentheses
abbrev tightness : Part → ℕ
tightness following = 0
tightness alternatives = 1
tightness item = 2

-- what the printed text of the tree opens where it is such a part
abbrev cost : Part → Tree → ℕ
cost part t = open_count (tokens_of t) + pairs (nat_lt (strength t) (tightness part))

opened_append : (ts us : List Token) → open_count (ts ++ us) ≡ open_count ts + open_count us
opened_append [] us = omega arith
opened_append (signs.Open ∷ ts) us = let e = opened_append ts us in omega (arith, e)
opened_append (signs.Hop pred ∷ ts) us = opened_append ts us
opened_append (signs.Optional ∷ ts) us = opened_append ts us
opened_append (signs.OnceOrMore ∷ ts) us = opened_append ts us
opened_append (signs.Repeated ∷ ts) us = opened_append ts us
opened_append (signs.Or ∷ ts) us = opened_append ts us
opened_append (signs.Close ∷ ts) us = opened_append ts us
opened_append (signs.Other ∷ ts) us = opened_append ts us

opened_closed_in : (wanted : Bool) (ts : List Token) → open_count (closed_in wanted ts) ≡ open_count ts + pairs wanted
opened_closed_in false ts = omega arith
opened_closed_in true ts = let e = opened_append ts (signs.Close ∷ []) in omega (arith, e)

-- a postfix sign behind tokens opens nothing
opened_behind : (wanted : Bool) (ts : List Token) (sign : Token) → open_count (sign ∷ []) ≡ 0 → open_count (closed_in wanted ts ++ sign ∷ []) ≡ open_count ts + pairs wanted
opened_behind wanted ts sign none =
    let e = opened_append (closed_in wanted ts) (sign ∷ []) in
    let f = opened_closed_in wanted ts in
    omega (arith, e, f, none)

-- a part that may bind less tight needs no more
pairs_fewer : (t : Tree) → pairs (nat_lt (strength t) 1) ≤ pairs (nat_lt (strength t) 2)
pairs_fewer (hop pred) = omega arith
pairs_fewer (followed a b) = omega arith
pairs_fewer (either a b) = omega arith
pairs_fewer (optional a) = omega arith
pairs_fewer (repeated a) = omega arith
pairs_fewer (once_or_more a) = omega arith

-- whatever spells the tree as such a part opens at least as many
costs : (depth : ℕ) (part : Part) (ts : List Token) (t : Tree) → SpellsPart depth part ts t → cost part t ≤ open_count ts
costs _ _ _ _ (predicate depth p) = omega arith
costs _ _ _ _ (in_parentheses depth us t spells) =
    let e = costs depth following us t spells in
    let f = opened_append us (signs.Close ∷ []) in
    let few = pairs_few (nat_lt (strength t) 2) in
    omega (arith, e, f, few)
costs _ _ _ _ (with_optional depth us a spells) =
    let e = costs depth item us a spells in
    let f = opened_append us (signs.Optional ∷ []) in
    let g = opened_behind (nat_lt (strength a) 2) (tokens_of a) signs.Optional refl in
    omega (arith, e, f, g)
costs _ _ _ _ (with_repeated depth us a spells) =
    let e = costs depth item us a spells in
    let f = opened_append us (signs.Repeated ∷ []) in
    let g = opened_behind (nat_lt (strength a) 2) (tokens_of a) signs.Repeated refl in
    omega (arith, e, f, g)
costs _ _ _ _ (with_once_or_more depth us a spells) =
    let e = costs depth item us a spells in
    let f = opened_append us (signs.OnceOrMore ∷ []) in
    let g = opened_behind (nat_lt (strength a) 2) (tokens_of a) signs.OnceOrMore refl in
    omega (arith, e, f, g)
costs _ _ _ _ (one_alternative depth ts t spells) =
    let e = costs depth item ts t spells in
    let f = pairs_fewer t in
    omega (arith, e, f)
costs _ _ _ _ (one_more depth front back a b first second) =
    let e = costs depth alternatives front a first in
    let f = costs depth item back b second in
    let g = opened_append front (signs.Or ∷ back) in
    let h = opened_append (closed_in (nat_lt (strength a) 1) (tokens_of a)) (signs.Or ∷ closed_in (nat_lt (strength b) 2) (tokens_of b)) in
    let i = opened_closed_in (nat_lt (strength a) 1) (tokens_of a) in
    let j = opened_closed_in (nat_lt (strength b) 2) (tokens_of b) in
    omega (arith, e, f, g, h, i, j)
costs _ _ _ _ (one_part depth ts t spells) =
    let e = costs depth alternatives ts t spells in
    let none : pairs (nat_lt (strength t) 0) ≡ 0 = ap pairs (le-ltb (strength t) 0 (omega arith)) in
    omega (arith, e, none)
costs _ _ _ _ (behind depth front back a b first second) =
    let e = costs depth following front a first in
    let f = costs depth alternatives back b second in
    let g = opened_append front back in
    let h = opened_append (tokens_of a) (closed_in (nat_lt (strength b) 1) (tokens_of b)) in
    let i = opened_closed_in (nat_lt (strength b) 1) (tokens_of b) in
    omega (arith, e, f, g, h, i)

pub fewest : (tree : Tree) (text : List ℕ) → IsSequence tree → SpellsSequence text tree → open_count (tokens (sequence_text tree)) ≤ open_count (tokens text)
fewest tree text is spells =
    let readable = read_is_sequence (sequence_text tree) tree (sequence_again tree is) in
    let e = ap open_count (printed_tokens tree readable.predicates) in
    let f = costs 32 following (tokens text) tree spells in
    omega (arith, e, f)
