-- No two hops of a walk are of one AS where none is found twice.
use Rattle.std.proofs.Common.{◌≡◌, ℕ, zero, suc, Bool, false, ◌||◌, ◌==◌, List, [], ◌∷◌, map, Some, refl, sym, ap, ap₂, ◌∙◌, inl, inr, arith}
use Rattle.std.specs.Prelude.{◌↔◌, slice_get}
use Rattle.std.specs.List.{list_any}
use Rattle.std.proofs.lemmas.Bool.{cases_Bool, or_parts, eqb-true, eqb-false}
use Rattle.std.proofs.lemmas.Option.{same_Some}
use Rattle.policy_expr.specs.declared.hop.WalkHop.{WalkHop}
use Rattle.doubles.specs.Doubles.{has_double}
use Rattle.doubles.proofs.Named.{named_is}
use Rattle.path_verifier.specs.Accepted.{NamesOnce}
use Rattle.path_verifier.specs.inner.Twice.{names_twice}

-- the numbers of hops have a double exactly where two hops are of one AS
pub doubles_are_twice : (hops : List WalkHop)
    → has_double (map (λ hop. hop.ia) hops) ≡ names_twice hops
doubles_are_twice [] = refl
doubles_are_twice (hop ∷ later) =
    ap₂ (λ a b. a || b) (named_is (λ other. other.ia) hop.ia later) (doubles_are_twice later)

none_at : (p : WalkHop → Bool) (hs : List WalkHop) → list_any p hs ≡ false → (k : ℕ) (h : WalkHop)
    → slice_get hs k ≡ Some h → p h ≡ false
none_at p [] none k h at = absurd cc
none_at p (x ∷ xs) none zero h at =
    let is : x ≡ h = same_Some x h at in rw (← is) (or_parts (p x) (list_any p xs) none).0
none_at p (x ∷ xs) none (suc k) h at = none_at p xs (or_parts (p x) (list_any p xs) none).1 k h at

none_from : (p : WalkHop → Bool) (hs : List WalkHop)
    → ((k : ℕ) (h : WalkHop) → slice_get hs k ≡ Some h → p h ≡ false) → list_any p hs ≡ false
none_from p [] each = refl
none_from p (x ∷ xs) each = rw (each zero x refl) (none_from p xs (λ k h at. each (suc k) h at))

apart_test : (m n : ℕ) → (m ≡ n → ⊥) → (m == n) ≡ false
apart_test m n h = elim (cases_Bool (m == n)) [
  | inl same ↦ absurd (h (eqb-true m n same))
  | inr other ↦ other
]

once_of : (hs : List WalkHop) → names_twice hs ≡ false → NamesOnce hs
once_of [] once j k d e at_j at_k same = absurd cc
once_of (x ∷ xs) once zero zero d e at_j at_k same = refl
once_of (x ∷ xs) once zero (suc k) d e at_j at_k same =
    let is : x ≡ d = same_Some x d at_j in
    let other =
    none_at (λ o. o.ia == x.ia) xs (or_parts (list_any (λ o. o.ia == x.ia) xs) (names_twice xs) once).0 k e at_k in
    absurd (eqb-false e.ia x.ia other (sym same ∙ ap (λ (o : WalkHop). o.ia) (sym is)))
once_of (x ∷ xs) once (suc j) zero d e at_j at_k same =
    let is : x ≡ e = same_Some x e at_k in
    let other =
    none_at (λ o. o.ia == x.ia) xs (or_parts (list_any (λ o. o.ia == x.ia) xs) (names_twice xs) once).0 j d at_j in
    absurd (eqb-false d.ia x.ia other (same ∙ ap (λ (o : WalkHop). o.ia) (sym is)))
once_of (x ∷ xs) once (suc j) (suc k) d e at_j at_k same =
    ap suc (once_of xs (or_parts (list_any (λ o. o.ia == x.ia) xs) (names_twice xs) once).1 j k d e at_j at_k same)

once_from : (hs : List WalkHop) → NamesOnce hs → names_twice hs ≡ false
once_from [] once = refl
once_from (x ∷ xs) once =
    let here : list_any (λ o. o.ia == x.ia) xs ≡ false =
    none_from (λ o. o.ia == x.ia) xs (λ k e at. apart_test e.ia x.ia (λ same. (let one : suc k ≡ zero = once (suc k) zero e x at refl same in omega arith))) in
    rw here (once_from xs (λ j k d e at_j at_k same. (let one : suc j ≡ suc k = once (suc j) (suc k) d e at_j at_k same in omega arith)))

-- no two hops are of one AS exactly where none is found twice
pub once_if_not_twice : (hops : List WalkHop) → (names_twice hops ≡ false) ↔ NamesOnce hops
once_if_not_twice hops = (once_of hops, once_from hops)
