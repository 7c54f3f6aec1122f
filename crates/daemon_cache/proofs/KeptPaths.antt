-- The paths of an answer may be sent; and paths that are kept by places, one after another.
use Rattle.std.proofs.Common.{◌≡◌, ◌<◌, ◌+◌, ℕ, List, [], ◌∷◌, ◌++◌, length, map, take, get_or, Option, Some, None, sym, ap, ◌∙◌, subst, take-suc, arith}
use Rattle.std.specs.Prelude.{All, filter_map}
use Rattle.std.specs.List.{cons_option}
use Rattle.std.proofs.Math.Numerals.{add-one}
use Rattle.std.proofs.lemmas.List.{get_or-map, length-map, map-append}
use Rattle.std.proofs.lemmas.List.Elements.{filter_map-append}
use Rattle.path_server.specs.Lookup.{Selection}
use Rattle.policy_expr.specs.Options.{WeighedRules}
use Rattle.combinator.specs.Candidate.{Question, PathValue, MaySend}
use Rattle.combinator.specs.Answer.{AnswerValue, AnswersWith, IsBest}
use Rattle.daemon_cache.specs.declared.kept.KeptPath.{KeptPath}
use Rattle.daemon_cache.specs.Request.{RequestValue, IsAnswerToRequest}
use Rattle.daemon_cache.specs.inner.Kept.{path_in}

best_is_sent : (question : Question) (path : PathValue) → IsBest question path → MaySend path
best_is_sent question path best = record {
  src = question.src;
  dst = question.dst;
  moment = question.set.moment;
  rules = question.rules;
  accepted = best.candidate.accepted;
}

each_is_sent : (set : Selection) (src dst : ℕ) (options : List WeighedRules) (limit : ℕ) (used : Option ℕ)
    (paths : List PathValue) → AnswersWith set src dst options limit used paths → All MaySend paths
each_is_sent set src dst options limit None paths is k d inside =
    absurd (let none : length paths ≡ 0 = ap (λ (l : List PathValue). length l) is.0 in let no : ⊥ = omega (arith, none, inside) in no)
each_is_sent set src dst options limit (Some one) paths is k d inside =
    best_is_sent _ _ (is.answer.best k d inside)

-- each path of an answer may be sent
pub answers_are_sent : (request : RequestValue) (set : Selection) (answer : AnswerValue)
    → IsAnswerToRequest request set answer → All MaySend answer.paths
answers_are_sent request set answer is =
    each_is_sent set request.src request.dst is.options request.limit answer.used answer.paths is.answers

-- each path that is kept may be sent
pub kept_is_sent : (set : Selection) (paths : List KeptPath) (kept : KeptPath) (k : ℕ)
    → All MaySend (map (path_in set) paths) → k < length paths → kept ≡ get_or paths k kept
    → MaySend (path_in set kept)
kept_is_sent set paths kept k all inside is =
    subst (λ (one : KeptPath). MaySend (path_in set one)) (sym is)
    (subst MaySend (get_or-map (path_in set) paths k kept (path_in set kept) inside)
    (all k (path_in set kept) (omega (arith, inside, length-map paths (path_in set)))))

-- the front with one element more
front : {X : Type 0} (xs : List X) (i : ℕ) (x : X) → i < length xs → x ≡ get_or xs i x
    → take i xs ++ x ∷ [] ≡ take (i + 1) xs
front xs i x inside is =
    ap (λ y. take i xs ++ y ∷ []) is ∙ (sym (take-suc xs i x inside) ∙ ap (λ n. take n xs) (sym (add-one i)))

-- one piece more is named
pub next_is_named : {X Y : Type 0} (h : X → Option Y) (named more : List X) (x : X) (ys : List Y) (i : ℕ) (y : Y)
    → more ≡ named ++ x ∷ [] → filter_map h named ≡ take i ys → h x ≡ Some y → i < length ys → y ≡ get_or ys i y
    → filter_map h more ≡ take (i + 1) ys
next_is_named h named more x ys i y grown so_far is inside there =
    ap (filter_map h) grown ∙ (filter_map-append h named (x ∷ [])
    ∙ (ap (λ l. l ++ filter_map h (x ∷ [])) so_far ∙ (ap (λ o. take i ys ++ cons_option o []) is
    ∙ front ys i y inside there)))

-- one path more is kept
pub next_is_kept : {X Y : Type 0} (f : X → Y) (kept more : List X) (x : X) (ys : List Y) (i : ℕ) (y : Y)
    → more ≡ kept ++ x ∷ [] → map f kept ≡ take i ys → f x ≡ y → i < length ys → y ≡ get_or ys i y
    → map f more ≡ take (i + 1) ys
next_is_kept f kept more x ys i y grown so_far is inside there =
    ap (map f) grown ∙ (map-append f kept (x ∷ []) ∙ (ap (λ l. l ++ f x ∷ []) so_far
    ∙ (ap (λ z. take i ys ++ z ∷ []) is ∙ front ys i y inside there)))

-- what is named so far, and what the next place names
pub next_place : {X Y : Type 0} (h : X → Option Y) (xs : List X) (i : ℕ) (d : X) (found : List Y) (next : Option Y)
    → found ≡ filter_map h (take i xs) → i < length xs → h (get_or xs i d) ≡ next
    → filter_map h (take (i + 1) xs) ≡ found ++ cons_option next []
next_place h xs i d found next so_far inside is =
    let front : take (i + 1) xs ≡ take i xs ++ get_or xs i d ∷ [] = ap (λ n. take n xs) (add-one i) ∙ take-suc xs i d inside in
    ap (filter_map h) front ∙ (filter_map-append h (take i xs) (get_or xs i d ∷ [])
    ∙ (ap (λ l. l ++ cons_option (h (get_or xs i d)) []) (sym so_far) ∙ ap (λ o. found ++ cons_option o []) is))
