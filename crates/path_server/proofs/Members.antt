-- What is in a filtered list, and what is in a list by a test.
use Rattle.std.proofs.Common.{◌≡◌, ℕ, zero, suc, ◌<◌, Bool, true, List, [], ◌∷◌, length, get_or, filter, Contains, Any, Decides, refl, ap, ◌∙◌, inl, inr, arith}
use Rattle.std.proofs.lemmas.Bool.{cases_Bool}
use Rattle.std.specs.Prelude.{◌↔◌}
use Rattle.std.specs.List.{list_any}
use Rattle.std.proofs.lemmas.List.Elements.{All-contains, All-filter, All-contains_itself, filter_passes, Contains-append_right}
use Rattle.std.proofs.lemmas.List.Folds.{Any-from_list_any, list_any_at, list_any-from_Any}

kept_at : {X : Type 0} (p : X → Bool) (xs : List X) (x : X) (k : ℕ) → k < length xs → get_or xs k x ≡ x
    → p x ≡ true → Contains (filter p xs) x
kept_at p [] x k within at pass = absurd (omega arith)
kept_at p (y ∷ ys) x zero within at pass =
    let passes : p y ≡ true = ap p at ∙ pass in
    rw passes (0, omega arith, at)
kept_at p (y ∷ ys) x (suc k) within at pass =
    let rest = kept_at p ys x k (omega arith) at pass in
    elim (cases_Bool (p y)) [
      | inl passes ↦ rw passes (Contains-append_right (y ∷ []) (filter p ys) x rest)
      | inr fails ↦ rw fails rest
    ]

-- a filter keeps what is there and passes its test
pub Contains-filter : {X : Type 0} (p : X → Bool) (xs : List X) (x : X)
    → Contains (filter p xs) x ↔ (Contains xs x × (p x ≡ true))
Contains-filter p xs x = (
  λ h. (All-contains (Contains xs) (filter p xs) x (All-filter p (Contains xs) xs (All-contains_itself xs)) h, All-contains (λ y. p y ≡ true) (filter p xs) x (filter_passes p xs) h),
  λ h. kept_at p xs x h.0.0 h.0.1 h.0.2 h.1,
)

also_at : {X : Type 0} (xs : List X) (k : ℕ) (x y : X) → x ≡ y → get_or xs k y ≡ y → get_or xs k x ≡ x
also_at xs k x y same at = rw same at

-- an element that is equal to one of the list is in it
pub is_in-Decides : {X : Type 0} (same : X → X → Bool) → ((a b : X) → Decides (same a b) (a ≡ b))
    → (xs : List X) (x : X) → Decides (list_any (same x) xs) (Contains xs x)
is_in-Decides same decides xs x = (
  λ h. (let some = Any-from_list_any (same x) xs h in (some.0, some.2, also_at xs some.0 x some.1 ((decides x some.1).0 some.4) some.3)),
  λ h. list_any_at (same x) xs h.0 x h.1 (ap (same x) h.2 ∙ (decides x x).1 refl),
)

-- some element passes the test where one has the fact that it decides
pub any-Decides : {X : Type 0} (p : X → Bool) (P : X → Type 0) → ((x : X) → Decides (p x) (P x))
    → (xs : List X) → Decides (list_any p xs) (Any P xs)
any-Decides p P decides xs = (
  λ h. (let some = Any-from_list_any p xs h in (some.0, some.1, some.2, some.3, (decides some.1).0 some.4)),
  λ some. list_any-from_Any p xs (some.0, some.1, some.2, some.3, (decides some.1).1 some.4),
)

-- what passes a filter passes it again
pub filter-filter : {X : Type 0} (p : X → Bool) (xs : List X) → filter p (filter p xs) ≡ filter p xs
filter-filter p [] = refl
filter-filter p (x ∷ xs) = elim (cases_Bool (p x)) [
  | inl passes ↦ rw (passes, passes) (ap (λ rest. x ∷ rest) (filter-filter p xs))
  | inr fails ↦ rw fails (filter-filter p xs)
]
