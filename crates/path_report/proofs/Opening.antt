-- The open paths and walks of the front of a list.
use Rattle.std.proofs.Common.{◌≡◌, ℕ, ◌+◌, Bool, true, false, List, [], ◌∷◌, ◌++◌, cond, take, drop, Some, refl, sym, ap, ◌∙◌, subst}
use Rattle.std.specs.Prelude.{slice_get, filter}
use Rattle.std.proofs.lemmas.List.{take-append-drop}
use Rattle.std.proofs.lemmas.List.Elements.{filter-append, filter_more}
use Rattle.std.proofs.lemmas.Option.{get_or_from_slice_get, slice_get_within}
use Rattle.policy_expr.specs.declared.hop.WalkHop.{WalkHop}
use Rattle.scion_topology.specs.declared.network.Link.{Link}
use Rattle.path_verifier.specs.Walk.{walk_of}
use Rattle.combinator.specs.Candidate.{PathValue}
use Rattle.path_report.specs.declared.best.BestPath.{BestPath}
use Rattle.path_report.specs.Paths.{is_open, open_paths, open_walks}
use Rattle.path_report.specs.Pair.{TellsFirst, TellsPath}

-- one element more
pub filter_next : {X : Type 0} (p : X → Bool) (xs : List X) (i : ℕ) (x : X) → slice_get xs i ≡ Some x
    → filter p (take (i + 1) xs) ≡ filter p (take i xs) ++ cond (p x) (x ∷ []) []
filter_next p xs i x is =
    filter_more p xs i x (slice_get_within xs i x is)
    ∙ ap (λ y. filter p (take i xs) ++ cond (p y) (y ∷ []) []) (get_or_from_slice_get xs i x x is)

-- one walk more of the front
pub walks_next : (links : List Link) (walks : List (List WalkHop)) (i : ℕ) (walk : List WalkHop) → slice_get walks i ≡ Some walk
    → open_walks links (take (i + 1) walks) ≡ open_walks links (take i walks) ++ cond (is_open links walk) (walk ∷ []) []
walks_next links = filter_next (is_open links)

-- a path that is not open, behind none that is
pub none_next : (links : List Link) (paths : List PathValue) (i : ℕ) (path : PathValue)
    → open_paths links (take i paths) ≡ []
    → slice_get paths i ≡ Some path → is_open links (walk_of path.pieces) ≡ false
    → open_paths links (take (i + 1) paths) ≡ []
none_next links paths i path none is closed =
    filter_next (λ (p : PathValue). is_open links (walk_of p.pieces)) paths i path is
    ∙ ap (λ front. front ++ cond (is_open links (walk_of path.pieces)) (path ∷ []) []) none
    ∙ ap (λ b. cond b (path ∷ []) []) closed

-- the first open path
pub tells_first : (links : List Link) (paths : List PathValue) (i : ℕ) (path : PathValue) (best : BestPath)
    → open_paths links (take i paths) ≡ [] → slice_get paths i ≡ Some path → is_open links (walk_of path.pieces) ≡ true
    → TellsPath path.pieces best → TellsFirst (open_paths links paths) (Some best)
tells_first links paths i path best none is opens tells =
    let test = λ (p : PathValue). is_open links (walk_of p.pieces) in
    let front : filter test (take (i + 1) paths) ≡ path ∷ [] =
    filter_next test paths i path is ∙ ap (λ f. f ++ cond (test path) (path ∷ []) []) none
    ∙ ap (λ b. cond b (path ∷ []) []) opens in
    let whole : open_paths links paths ≡ path ∷ filter test (drop (i + 1) paths) =
    sym (ap (filter test) (take-append-drop (i + 1) paths)) ∙ filter-append test (take (i + 1) paths)
    (drop (i + 1) paths)
    ∙ ap (λ f. f ++ filter test (drop (i + 1) paths)) front in
    subst (λ found. TellsFirst found (Some best)) (sym whole) (best, (refl, tells))
