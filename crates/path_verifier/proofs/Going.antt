-- Whether a walk that goes on still passes no AS twice.
use Rattle.std.proofs.Common.{◌≡◌, ℕ, zero, suc, ◌≤◌, Bool, false, not, ◌==◌, ◌||◌, List, [], ◌∷◌, ◌++◌, length, take, drop, Some, refl, sym, ap, ap₂, ◌∙◌, arith, length-append}
use Rattle.std.specs.Prelude.{◌↔◌, IsTrue, slice_get}
use Rattle.std.specs.List.{list_any}
use Rattle.std.proofs.lemmas.Bool.{not-true, or_parts}
use Rattle.std.proofs.lemmas.List.{length-map, take-append-drop, take-map}
use Rattle.std.proofs.lemmas.List.Folds.{list_any-append}
use Rattle.std.proofs.Math.Bool.{or_assoc}
use Rattle.std.proofs.Math.Seq.{take-append_seam}
use Rattle.policy_expr.specs.declared.hop.WalkHop.{WalkHop}
use Rattle.doubles.specs.Doubles.{has_double}
use Rattle.path_verifier.specs.Walk.{entered_by, left_by, walk_with}
use Rattle.path_verifier.specs.Accepted.{NamesOnce}
use Rattle.path_verifier.specs.inner.Twice.{is_passed, names_again, names_twice}
use Rattle.path_verifier.proofs.Course.{ases, ases-entered_by, ases-joined, ases-left_by}
use Rattle.path_verifier.proofs.Once.{doubles_are_twice, once_if_not_twice}

-- ASes alone tell whether one is passed twice
twice_alike : (one other : List WalkHop) → ases one ≡ ases other → names_twice one ≡ names_twice other
twice_alike one other same = sym (doubles_are_twice one) ∙ ap has_double same ∙ doubles_are_twice other

-- where the first hops are of one AS each, only the later ones have to be looked at
twice_behind : (front later : List WalkHop) → names_twice front ≡ false → names_twice (front ++ later) ≡ names_again front later
twice_behind [] later none = refl
twice_behind (hop ∷ front) later none =
    let parts = or_parts (is_passed front hop.ia) (names_twice front) none in
    ap₂ (λ (a b : Bool). a || b)
    (list_any-append (λ (other : WalkHop). other.ia == hop.ia) front later ∙ ap (λ (a : Bool). a || is_passed later hop.ia) parts.0)
    (twice_behind front later parts.1)
    ∙ sym (or_assoc (is_passed later hop.ia) (list_any (λ (one : WalkHop). is_passed later one.ia) front) (names_twice later))

module _ (old hops new : List WalkHop) (is : new ≡ left_by 0 (entered_by 0 (walk_with old hops))) where
  ases-new : ases new ≡ ases (walk_with old hops)
  ases-new = ap ases is ∙ ases-left_by 0 (entered_by 0 (walk_with old hops)) ∙ ases-entered_by 0 (walk_with old hops)

  -- the ASes of the walk stay, and the new ones follow
  ases-behind : (first : WalkHop) (rest : List WalkHop) → old ≡ first ∷ rest → ases new ≡ ases old ++ drop 1 (ases hops)
  ases-behind first rest some =
      ases-new ∙ ases-joined old hops (let long = ap (λ (w : List WalkHop). length w) some in omega (arith, long))

  front_stays : (walk : List WalkHop) → old ≡ walk → ases (take (length old) new) ≡ ases old
  front_stays [] none = ap (λ (w : List WalkHop). ases (take (length w) new)) none ∙ sym (ap ases none)
  front_stays (first ∷ rest) some =
      sym (take-map (λ (hop : WalkHop). hop.ia) (length old) new)
      ∙ ap (take (length old)) (ases-behind first rest some)
      ∙ ap (λ (n : ℕ). take n (ases old ++ drop 1 (ases hops))) (sym (length-map old (λ hop. hop.ia)))
      ∙ take-append_seam (ases old) (drop 1 (ases hops))

  longer : (walk : List WalkHop) → old ≡ walk → length old ≤ length new
  longer [] none = (let same = ap (λ (w : List WalkHop). length w) none in omega (arith, same))
  longer (first ∷ rest) some =
      let all = ap (λ (xs : List ℕ). length xs) (ases-behind first rest some) in
      let both = length-append (ases old) (drop 1 (ases hops)) in
      let own = length-map old (λ (hop : WalkHop). hop.ia) in
      let long = length-map new (λ (hop : WalkHop). hop.ia) in
      omega (arith, all, both, own, long)

  -- a walk that goes on is no shorter
  pub is_longer : length old ≤ length new
  is_longer = longer old refl

  pub is_once : (front later : List WalkHop) → front ≡ take (length old) new → later ≡ drop (length old) new
      → (again : Bool) → again ≡ names_again front later → NamesOnce old → IsTrue (not again) ↔ NamesOnce new
  is_once front later before behind again answer once = (
    λ never. (once_if_not_twice new).0 (same ∙ not-true again never),
    λ is_so. ap not (sym same ∙ (once_if_not_twice new).1 is_so),
  )
    where
      none : names_twice (take (length old) new) ≡ false
      none = twice_alike (take (length old) new) old (front_stays old refl) ∙ (once_if_not_twice old).1 once

      same : names_twice new ≡ again
      same =
          sym (ap names_twice (take-append-drop (length old) new))
          ∙ twice_behind (take (length old) new) (drop (length old) new) none
          ∙ ap₂ names_again (sym before) (sym behind)
          ∙ sym answer

-- ---- the beginning of a walk that passes no AS twice

get_take : (hops : List WalkHop) (n k : ℕ) (hop : WalkHop) → slice_get (take n hops) k ≡ Some hop → slice_get hops k ≡ Some hop
get_take hops zero k hop there = absurd cc
get_take [] (suc n) k hop there = there
get_take (one ∷ hops) (suc n) zero hop there = there
get_take (one ∷ hops) (suc n) (suc k) hop there = get_take hops n k hop there

pub once_shortened : (way n : ℕ) (hops : List WalkHop) → NamesOnce hops → NamesOnce (left_by way (take n hops))
once_shortened way n hops once =
    let front : NamesOnce (take n hops) = λ j k one other at_j at_k same.
    once j k one other (get_take hops n j one at_j) (get_take hops n k other at_k) same in
    (once_if_not_twice (left_by way (take n hops))).0
    (twice_alike (left_by way (take n hops)) (take n hops) (ases-left_by way (take n hops)) ∙ (once_if_not_twice (take n hops)).1 front)
