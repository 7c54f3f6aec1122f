-- What tests of lists and of pairs of tests tell.
use Rattle.std.proofs.Common.{◌≡◌, ◌≢◌, ℕ, zero, suc, Bool, true, false, ◌||◌, ◌==◌, List, [], ◌∷◌, get_or, Decides, Any, All, refl, sym, ◌∙◌, arith}
use Rattle.std.specs.List.{list_any, list_all}
use Rattle.std.proofs.lemmas.Bool.{and_parts, and_from}
use mathlib.Core.Bool.{true≢false}
use Rattle.std.proofs.lemmas.Bool.Decides.{not_from_Decides, Decides-eqb}
use Rattle.std.proofs.lemmas.List.Folds.{list_any_at, Any-from_list_any, list_any-from_Any}

-- a test that is never true is false
pub false_unless : (b : Bool) → (b ≡ true → ⊥) → b ≡ false
false_unless true h = absurd (h refl)
false_unless false h = refl

pub or_false : (a b : Bool) → (a || b) ≡ false → (a ≡ false) × (b ≡ false)
or_false true b e = absurd (true≢false e)
or_false false b e = (refl, e)

pub false_or : (a b : Bool) → a ≡ false → b ≡ false → (a || b) ≡ false
false_or true b e d = absurd (true≢false e)
false_or false b e d = d

pub apart : (m n : ℕ) → (m == n) ≡ false → m ≢ n
apart m n = not_from_Decides (m == n) (Decides-eqb m n)

pub apart_test : (m n : ℕ) → m ≢ n → (m == n) ≡ false
apart_test m n h = false_unless (m == n) (λ e. h ((Decides-eqb m n).0 e))

-- some element passes exactly where the fact holds of some element
pub Decides-list_any : {X : Type 0} (p : X → Bool) (P : X → Type 0) → ((x : X) → Decides (p x) (P x)) → (xs : List X) → Decides (list_any p xs) (Any P xs)
Decides-list_any p P each xs = (
  λ e. let some = Any-from_list_any p xs e in (some.0, some.1, some.2, some.3, (each some.1).0 some.4),
  λ some. list_any-from_Any p xs (some.0, some.1, some.2, some.3, (each some.1).1 some.4),
)

-- where none passes, each one fails
pub each_fails : {X : Type 0} (p : X → Bool) (xs : List X) → list_any p xs ≡ false → All (λ x. p x ≡ false) xs
each_fails p xs none k d below = false_unless (p (get_or xs k d)) (λ e. true≢false (sym (list_any_at p xs k d below e) ∙ none))

-- a fact of the first and of each other
pub All-cons : {X : Type 0} (P : X → Type 0) (x : X) (xs : List X) → P x → All P xs → All P (x ∷ xs)
All-cons P x xs first rest zero d below = first
All-cons P x xs first rest (suc k) d below = rest k d (omega arith)

pub All-rest : {X : Type 0} (P : X → Type 0) (x : X) (xs : List X) → All P (x ∷ xs) → All P xs
All-rest P x xs all = λ k d below. all (suc k) d (omega arith)

pub All-first : {X : Type 0} (P : X → Type 0) (x : X) (xs : List X) → All P (x ∷ xs) → P x
All-first P x xs all = all zero x (omega arith)

-- all elements pass exactly where the fact holds of each
pub All-from_list_all : {X : Type 0} (p : X → Bool) (P : X → Type 0) → ((x : X) → p x ≡ true → P x) → (xs : List X) → list_all p xs ≡ true → All P xs
All-from_list_all p P each [] all = λ k d below. absurd (omega arith)
All-from_list_all p P each (x ∷ xs) all =
    let parts = and_parts (p x) (list_all p xs) all in
    All-cons P x xs (each x parts.0) (All-from_list_all p P each xs parts.1)

pub list_all-from_All : {X : Type 0} (p : X → Bool) (P : X → Type 0) → ((x : X) → P x → p x ≡ true) → (xs : List X) → All P xs → list_all p xs ≡ true
list_all-from_All p P each [] all = refl
list_all-from_All p P each (x ∷ xs) all =
    and_from (p x) (list_all p xs) (each x (All-first P x xs all)) (list_all-from_All p P each xs (All-rest P x xs all))
