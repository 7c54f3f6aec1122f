-- The tokens of a printed tree are those of the tree.
use Rattle.std.proofs.Common.{◌≡◌, ℕ, ◌<◌, ◌≤◌, subst, Bool, true, false, nat_lt, List, [], ◌∷◌, ◌++◌, length, map, Ok, refl, sym, ◌∙◌, ap, arith, append_assoc}
use Rattle.std.specs.List.{AllByRecursion}
use Rattle.std.proofs.lemmas.Bool.{le-ltb}
use Rattle.std.proofs.lemmas.List.{append-nil}
use Rattle.policy_expr.specs.declared.hop.HopPred.{HopPred}
use Rattle.policy_expr.specs.declared.token.Token.{Token}
use Rattle.policy_expr.specs.declared.token.Token.TheVariants as signs
use Rattle.policy_expr.specs.Predicate.{predicate_at}
use Rattle.policy_expr.specs.Tokens.{is_mark, begins_with_mark, token_texts, token_of, read_token, tokens}
use Rattle.policy_expr.specs.Language.{Tree, hop, followed, either, optional, repeated, once_or_more}
use Rattle.policy_expr.specs.Printing.{in_parentheses, predicate_text, sequence_text, printed_as}
use Rattle.policy_expr.proofs.Readable.{ArePredicates, IsReadable, strength}
use Rattle.policy_expr.proofs.Cutting.{after_marks, marks_of, texts_of_run}
use Rattle.policy_expr.specs.Reading.{new_level, tree_at, sequence_at, node_count}
use Rattle.policy_expr.proofs.Steps.{wants, read_on, tree_is_read}
use Rattle.policy_expr.proofs.Again.{closed_in, tokens_of, tokens_read}
use Rattle.policy_expr.proofs.Texts.{IsMark, predicate_again, predicate_is_marks, predicate_is_some}

-- a run of marks before something else
run_parts : (run rest : List ℕ) → AllByRecursion IsMark run → begins_with_mark rest ≡ false → (marks_of (run ++ rest) ≡ run) × (after_marks (run ++ rest) ≡ rest)
unfolding after_marks
run_parts [] [] marks ends = (refl, refl)
run_parts [] (b ∷ rest) marks ends = rw ends (refl, refl)
run_parts (b ∷ run) rest marks ends =
    let r = run_parts run rest marks.1 ends in
    rw marks.0 (ap (λ (t : List ℕ). b ∷ t) r.0, r.1)

-- the tokens of a run are one
tokens_of_run : (b : ℕ) (run rest : List ℕ) → AllByRecursion IsMark (b ∷ run) → begins_with_mark rest ≡ false
    → tokens ((b ∷ run) ++ rest) ≡ read_token (predicate_at (b ∷ run)) ∷ tokens rest
tokens_of_run b run rest marks ends =
    let r = run_parts (b ∷ run) rest marks ends in
    let cut : token_texts ((b ∷ run) ++ rest) ≡ (b ∷ run) ∷ token_texts rest =
    texts_of_run b (run ++ rest) marks.0 ∙ ap (λ (t : List ℕ). t ∷ token_texts (after_marks ((b ∷ run) ++ rest))) r.0 ∙ ap (λ (t : List ℕ). (b ∷ run) ∷ token_texts t) r.1 in
    ap (map token_of) cut ∙ ap (λ (t : Token). t ∷ tokens rest) (rw marks.0 refl)

-- the tokens of a predicate's text
tokens_of_predicate : (text : List ℕ) (pred : HopPred) (rest : List ℕ) → 0 < length text → AllByRecursion IsMark text → predicate_at text ≡ Ok pred
    → begins_with_mark rest ≡ false → tokens (text ++ rest) ≡ signs.Hop pred ∷ tokens rest
tokens_of_predicate [] pred rest some marks again ends = absurd (omega arith)
tokens_of_predicate (b ∷ run) pred rest some marks again ends =
    tokens_of_run b run rest marks ends ∙ ap (λ (r : _). read_token r ∷ tokens rest) again

-- a sign before a text
pub sign_first : (rest : List ℕ) → (tokens (40 ∷ rest) ≡ signs.Open ∷ tokens rest) × (tokens (41 ∷ rest) ≡ signs.Close ∷ tokens rest)
    × (tokens (124 ∷ rest) ≡ signs.Or ∷ tokens rest) × (tokens (63 ∷ rest) ≡ signs.Optional ∷ tokens rest)
    × (tokens (42 ∷ rest) ≡ signs.Repeated ∷ tokens rest) × (tokens (43 ∷ rest) ≡ signs.OnceOrMore ∷ tokens rest)
    × (tokens (32 ∷ rest) ≡ tokens rest)
unfolding token_texts
sign_first rest = (refl, refl, refl, refl, refl, refl, refl)

-- what is printed, and then a text that goes on with no mark
abbrev pub Prints : List ℕ → List Token → Type 0
Prints text signs = (rest : List ℕ) → begins_with_mark rest ≡ false → tokens (text ++ rest) ≡ signs ++ tokens rest

prints_in_parentheses : (wanted : Bool) (text : List ℕ) (signs_in : List Token) → Prints text signs_in → Prints (in_parentheses wanted text) (closed_in wanted signs_in)
prints_in_parentheses false text signs_in prints rest ends = prints rest ends
prints_in_parentheses true text signs_in prints rest ends =
    ap tokens (ap (λ (t : List ℕ). 40 ∷ t) (append_assoc text (41 ∷ []) rest))
    ∙ (sign_first (text ++ (41 ∷ rest))).0
    ∙ ap (λ (t : List Token). signs.Open ∷ t) (prints (41 ∷ rest) refl ∙ ap (λ (t : List Token). signs_in ++ t) (sign_first rest).1)
    ∙ ap (λ (t : List Token). signs.Open ∷ t) (sym (append_assoc signs_in (signs.Close ∷ []) (tokens rest)))

-- a text behind another, with a sign between them that is one token, or a space that is none
prints_with_sign : (sign : ℕ) (token : Token) (front back : List ℕ) (signs_in_front signs_behind : List Token) → is_mark sign ≡ false
    → ((rest : List ℕ) → tokens (sign ∷ rest) ≡ token ∷ tokens rest) → Prints front signs_in_front → Prints back signs_behind
    → Prints (front ++ (sign ∷ back)) (signs_in_front ++ (token ∷ signs_behind))
prints_with_sign sign token front back signs_in_front signs_behind no_mark first prints_front prints_back rest ends =
    ap tokens (append_assoc front (sign ∷ back) rest)
    ∙ prints_front (sign ∷ (back ++ rest)) no_mark
    ∙ ap (λ (t : List Token). signs_in_front ++ t) (first (back ++ rest) ∙ ap (λ (t : List Token). token ∷ t) (prints_back rest ends))
    ∙ sym (append_assoc signs_in_front (token ∷ signs_behind) (tokens rest))

prints_nothing : Prints [] []
prints_nothing rest ends = refl

prints_behind_space : (front back : List ℕ) (signs_in_front signs_behind : List Token) → Prints front signs_in_front → Prints back signs_behind
    → Prints (front ++ (32 ∷ back)) (signs_in_front ++ signs_behind)
prints_behind_space front back signs_in_front signs_behind prints_front prints_back rest ends =
    ap tokens (append_assoc front (32 ∷ back) rest)
    ∙ prints_front (32 ∷ (back ++ rest)) refl
    ∙ ap (λ (t : List Token). signs_in_front ++ t) ((sign_first (back ++ rest)).6 ∙ prints_back rest ends)
    ∙ sym (append_assoc signs_in_front signs_behind (tokens rest))

-- no part is too loose to stand alone
never_closed : (t : Tree) (tokens : List Token) → closed_in (nat_lt (strength t) 0) tokens ≡ tokens
never_closed t tokens = let no : nat_lt (strength t) 0 ≡ false = le-ltb (strength t) 0 (omega arith) in rw no refl

item_open : (least : ℕ) (tokens : List Token) → least ≤ 2 → tokens ≡ closed_in (nat_lt 2 least) tokens
item_open least tokens fits = let no : nat_lt 2 least ≡ false = le-ltb 2 least fits in rw no refl

-- an item and a sign behind it
prints_signed : (a : Tree) (sign : ℕ) (token : Token) (least : ℕ) → is_mark sign ≡ false → ((rest : List ℕ) → tokens (sign ∷ rest) ≡ token ∷ tokens rest)
    → least ≤ 2 → Prints (printed_as 2 a) (closed_in (nat_lt (strength a) 2) (tokens_of a))
    → Prints (printed_as 2 a ++ sign ∷ []) (closed_in (nat_lt 2 least) (closed_in (nat_lt (strength a) 2) (tokens_of a) ++ token ∷ []))
prints_signed a sign token least no_mark first fits item =
    let signs_in = closed_in (nat_lt (strength a) 2) (tokens_of a) in
    subst (Prints (printed_as 2 a ++ sign ∷ [])) (item_open least (signs_in ++ token ∷ []) fits)
    (prints_with_sign sign token (printed_as 2 a) [] signs_in [] no_mark first item prints_nothing)

-- the text of a tree as such a part
prints : (t : Tree) (least : ℕ) → least ≤ 2 → ArePredicates t → Prints (printed_as least t) (closed_in (nat_lt (strength t) least) (tokens_of t))
prints (hop pred) least fits is =
    subst (Prints (predicate_text pred)) (item_open least (tokens_of (hop pred)) fits)
    (λ rest ends. tokens_of_predicate (predicate_text pred) pred rest (predicate_is_some pred is) (predicate_is_marks pred is) (predicate_again pred is) ends)
prints (followed a b) least fits are =
    let front = subst (Prints (printed_as 0 a)) (never_closed a (tokens_of a)) (prints a 0 (omega arith) are.0) in
    let second = closed_in (nat_lt (strength b) 1) (tokens_of b) in
    prints_in_parentheses (nat_lt 0 least) (printed_as 0 a ++ (32 ∷ printed_as 1 b)) (tokens_of a ++ second)
    (prints_behind_space (printed_as 0 a) (printed_as 1 b) (tokens_of a) second front (prints b 1 (omega arith) are.1))
prints (either a b) least fits are =
    let first = closed_in (nat_lt (strength a) 1) (tokens_of a) in
    let second = closed_in (nat_lt (strength b) 2) (tokens_of b) in
    prints_in_parentheses (nat_lt 1 least) (printed_as 1 a ++ (124 ∷ printed_as 2 b)) (first ++ (signs.Or ∷ second))
    (prints_with_sign 124 signs.Or (printed_as 1 a) (printed_as 2 b) first second refl (λ rest. (sign_first rest).2)
    (prints a 1 (omega arith) are.0) (prints b 2 (omega arith) are.1))
prints (optional a) least fits are = prints_signed a 63 signs.Optional least refl (λ rest. (sign_first rest).3) fits (prints a 2 (omega arith) are)
prints (repeated a) least fits are = prints_signed a 42 signs.Repeated least refl (λ rest. (sign_first rest).4) fits (prints a 2 (omega arith) are)
prints (once_or_more a) least fits are = prints_signed a 43 signs.OnceOrMore least refl (λ rest. (sign_first rest).5) fits (prints a 2 (omega arith) are)

-- the tokens of a printed tree
pub printed_tokens : (t : Tree) → ArePredicates t → tokens (sequence_text t) ≡ tokens_of t
unfolding token_texts
printed_tokens t are =
    let prints_t = subst (Prints (sequence_text t)) (never_closed t (tokens_of t)) (prints t 0 (omega arith) are) in
    ap tokens (sym (append-nil (sequence_text t))) ∙ prints_t [] refl ∙ append-nil (tokens_of t)

-- what is printed of a sequence is read as it
pub printed_again : (t : Tree) → IsReadable t → sequence_at (sequence_text t) ≡ Ok t
printed_again t is =
    let whole : tree_at (sequence_text t) ≡ Ok t = sym (tree_is_read (sequence_text t)) ∙ ap (read_on (wants [] new_level)) (printed_tokens t is.predicates) ∙ tokens_read t is.shallow in
    let small : nat_lt 256 (node_count t) ≡ false = le-ltb 256 (node_count t) is.small in
    rw (whole, small) refl
