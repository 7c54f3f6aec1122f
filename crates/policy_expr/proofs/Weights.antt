-- Judging a sequence's text by how many parentheses are open, whether an item stands before the
-- rest, and what its tokens weigh.
use Rattle.std.proofs.Common.{◌≡◌, ℕ, ◌+◌, ◌<◌, ◌≤◌, min, Bool, true, false, List, [], ◌∷◌, ◌++◌, Some, None, Result, Ok, Err, IsOk, refl, sym, ◌∙◌, ap, arith}
use Rattle.std.specs.Prelude.{nat_lt}
use Rattle.std.specs.Result.{result_err}
use Rattle.std.proofs.lemmas.Bool.{lt-ltb, le-ltb}
use Rattle.refusal.specs.Refusal.{◌>>=◌}
use Rattle.policy_expr.specs.declared.fault.PolicyFault.{PolicyFault}
use Rattle.policy_expr.specs.declared.fault.PolicyFault.TheVariants as faults
use Rattle.policy_expr.specs.declared.token.Token.{Token}
use Rattle.policy_expr.specs.declared.token.Token.TheVariants as signs
use Rattle.policy_expr.specs.Tokens.{tokens}
use Rattle.policy_expr.specs.Language.{Tree}
use Rattle.policy_expr.specs.Grammar.{Part, following, SpellsPart, predicate, in_parentheses, with_optional, with_repeated, with_once_or_more, one_alternative, one_more, one_part, behind}
use Rattle.policy_expr.specs.Reading.{tree_at, sequence_at, node_count, fault_at}
use Rattle.policy_expr.specs.inner.Views.{weight_of}
use Rattle.policy_expr.proofs.Steps.{within_size, fault_is_read}
use Rattle.policy_expr.proofs.Found.{tree_is_spelled}

-- what tokens weigh together
abbrev pub weights : List Token → ℕ
weights [] = 0
weights (token ∷ later) = weight_of token + weights later

weights-append : (ts us : List Token) → weights (ts ++ us) ≡ weights ts + weights us
weights-append [] us = omega arith
weights-append (token ∷ ts) us = let rest = weights-append ts us in omega arith

-- the tokens of a tree weigh one more than it has nodes
weights_of_tree : (depth : ℕ) (part : Part) (ts : List Token) (t : Tree) → SpellsPart depth part ts t → weights ts ≡ node_count t + 1
weights_of_tree _ _ _ _ (predicate depth p) = refl
weights_of_tree _ _ _ _ (in_parentheses depth ts t s) = let inner = weights_of_tree _ _ _ _ s in let all = weights-append ts (signs.Close ∷ []) in omega arith
weights_of_tree _ _ _ _ (with_optional depth ts t s) = let inner = weights_of_tree _ _ _ _ s in let all = weights-append ts (signs.Optional ∷ []) in omega arith
weights_of_tree _ _ _ _ (with_repeated depth ts t s) = let inner = weights_of_tree _ _ _ _ s in let all = weights-append ts (signs.Repeated ∷ []) in omega arith
weights_of_tree _ _ _ _ (with_once_or_more depth ts t s) = let inner = weights_of_tree _ _ _ _ s in let all = weights-append ts (signs.OnceOrMore ∷ []) in omega arith
weights_of_tree _ _ _ _ (one_alternative depth ts t s) = weights_of_tree _ _ _ _ s
weights_of_tree _ _ _ _ (one_more depth ts us a b s r) =
    let one = weights_of_tree _ _ _ _ s in let other = weights_of_tree _ _ _ _ r in let all = weights-append ts (signs.Or ∷ us) in omega arith
weights_of_tree _ _ _ _ (one_part depth ts t s) = weights_of_tree _ _ _ _ s
weights_of_tree _ _ _ _ (behind depth ts us a b s r) =
    let one = weights_of_tree _ _ _ _ s in let other = weights_of_tree _ _ _ _ r in let all = weights-append ts us in omega arith

-- judging stands where the rest of the text begins
pub record StandsAt (text : List ℕ) (rest : List Token) (depth : ℕ) (item : Bool) (weight : ℕ) : Type 0 where
  pub same : fault_at 0 false (tokens text) ≡ fault_at depth item rest
  pub taken : ℕ
  pub all : taken + weights rest ≡ weights (tokens text)
  -- a weight is told up to 258
  pub weighed : weight ≡ min taken 258

-- one token more
pub stands_next : (text : List ℕ) (rest later : List Token) (depth next_depth : ℕ) (item next_item : Bool) (weight : ℕ) (token : Token)
    → StandsAt text rest depth item weight → rest ≡ token ∷ later
    → ((ts : List Token) → fault_at depth item (token ∷ ts) ≡ fault_at next_depth next_item ts)
    → StandsAt text later next_depth next_item (min (weight + weight_of token) 258)
stands_next text rest later depth next_depth item next_item weight token s begins goes_on =
    let rest_weighs : weights rest ≡ weight_of token + weights later = ap weights begins in
    let all = s.all in
    let weighed = s.weighed in
    record {
      same = s.same ∙ ap (fault_at depth item) begins ∙ goes_on later;
      taken = s.taken + weight_of token;
      all = omega arith;
      weighed = omega arith;
    }

-- the text is refused by the fault that is found
pub refused_text : (text : List ℕ) (fault : PolicyFault) → fault_at 0 false (tokens text) ≡ Some fault → sequence_at text ≡ Err fault
refused_text text fault found = by (tree_at text) (sym (fault_is_read text) ∙ found)
  where
    by : (r : Result Tree PolicyFault) → result_err r ≡ Some fault → (r >>= within_size) ≡ Err fault
    by (Ok tree) e = absurd cc
    by (Err other) e = (let same : other ≡ fault = cc in ap Err same)

pub stands_refused : (text : List ℕ) (rest later : List Token) (depth : ℕ) (item : Bool) (weight : ℕ) (token : Token) (fault : PolicyFault)
    → StandsAt text rest depth item weight → rest ≡ token ∷ later
    → ((ts : List Token) → fault_at depth item (token ∷ ts) ≡ Some fault) → sequence_at text ≡ Err fault
stands_refused text rest later depth item weight token fault s begins found =
    refused_text text fault (s.same ∙ ap (fault_at depth item) begins ∙ found later)

-- what is found at the end
pub end_refused : (text : List ℕ) (rest : List Token) (depth : ℕ) (item : Bool) (weight : ℕ) (fault : PolicyFault)
    → StandsAt text rest depth item weight → rest ≡ [] → fault_at depth item [] ≡ Some fault → sequence_at text ≡ Err fault
end_refused text rest depth item weight fault s none found =
    refused_text text fault (s.same ∙ ap (fault_at depth item) none ∙ found)

-- without a fault there is a tree, which has one node less than the tokens weigh
tree_there : (text : List ℕ) → fault_at 0 false (tokens text) ≡ None
    → (tree : Tree) × (tree_at text ≡ Ok tree) × (weights (tokens text) ≡ node_count tree + 1)
tree_there text none = by (tree_at text) refl (sym (fault_is_read text) ∙ none)
  where
    by : (r : Result Tree PolicyFault) → tree_at text ≡ r → result_err r ≡ None
        → (tree : Tree) × (tree_at text ≡ Ok tree) × (weights (tokens text) ≡ node_count tree + 1)
    by (Ok tree) is e = (tree, is, weights_of_tree 32 following (tokens text) tree (tree_is_spelled text tree is))
    by (Err fault) is e = absurd cc

-- so it is at the end, where the weight of all tokens is known
end_tree : (text : List ℕ) (rest : List Token) (depth : ℕ) (item : Bool) (weight : ℕ)
    → StandsAt text rest depth item weight → rest ≡ [] → fault_at depth item [] ≡ None
    → (tree : Tree) × (tree_at text ≡ Ok tree) × (weight ≡ min (node_count tree + 1) 258)
end_tree text rest depth item weight s none found =
    let t = tree_there text (s.same ∙ ap (fault_at depth item) none ∙ found) in
    let rest_weighs : weights rest ≡ 0 = ap weights none in
    let all = s.all in
    let weighed = s.weighed in
    let nodes = t.2 in
    (t.0, t.1, omega arith)

pub end_large : (text : List ℕ) (rest : List Token) (depth : ℕ) (item : Bool) (weight : ℕ)
    → StandsAt text rest depth item weight → rest ≡ [] → fault_at depth item [] ≡ None → 257 < weight → sequence_at text ≡ Err faults.TooLarge
end_large text rest depth item weight s none found many =
    let t = end_tree text rest depth item weight s none found in
    let nodes = t.2 in
    let large : nat_lt 256 (node_count t.0) ≡ true = lt-ltb 256 (node_count t.0) (omega arith) in
    rw (t.1, large) refl

pub end_small : (text : List ℕ) (rest : List Token) (depth : ℕ) (item : Bool) (weight : ℕ)
    → StandsAt text rest depth item weight → rest ≡ [] → fault_at depth item [] ≡ None → weight ≤ 257 → IsOk (sequence_at text)
end_small text rest depth item weight s none found few =
    let t = end_tree text rest depth item weight s none found in
    let nodes = t.2 in
    let small : nat_lt 256 (node_count t.0) ≡ false = le-ltb 256 (node_count t.0) (omega arith) in
    rw (t.1, small) refl
