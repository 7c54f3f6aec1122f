-- Tests over lists, and lists of numbers that rise.
use Rattle.std.proofs.Common.{◌≡◌, ℕ, suc, ◌<◌, ◌≤◌, nat_eq, nat_lt, ltb, Bool, true, false, ◌&&◌, ◌||◌, cond, List, [], ◌∷◌, length, filter, AllPairs, All, Decides, refl, ap, sym, ◌∙◌, inl, inr, arith}
use Rattle.std.specs.List.{IsAllAdjacentAnswer, list_any, flat_map, dedup, dedup_from, range_with_len}
use Rattle.std.specs.List.Sorted.{IsStrictlyIncreasing}
use Rattle.std.proofs.lemmas.Bool.{cases_Bool, cases_order, cases_eq, eqb-true, eq-eqb, lt-ltb, ltb-true, ne_eqb, true≢false}
use Rattle.std.proofs.lemmas.List.FromFn.{get_or-range_with_len, length-range_with_len}
use Rattle.std.proofs.lemmas.List.Folds.{list_any_none, list_any-append}
use Rattle.std.proofs.lemmas.Map.Views.{any-filter_same}
use Rattle.path_server.specs.inner.Index.{is_in}

-- ---- tests

-- two tests that are passed together are the same
pub same_test : (a b : Bool) → (a ≡ true → b ≡ true) → (b ≡ true → a ≡ true) → a ≡ b
same_test true b there back = sym (there refl)
same_test false true there back = back refl
same_test false false there back = refl

-- two tests of one fact are the same
pub same_decided : {P : Type 0} (a b : Bool) → Decides a P → Decides b P → a ≡ b
same_decided a b one other = same_test a b (λ e. other.1 (one.0 e)) (λ e. one.1 (other.0 e))

pub any_same : {X : Type 0} (p q : X → Bool) → ((x : X) → p x ≡ q x) → (xs : List X) → list_any p xs ≡ list_any q xs
any_same p q same [] = refl
any_same p q same (x ∷ xs) = rw (same x, any_same p q same xs) refl

pub any_on : {X : Type 0} (p q : X → Bool) (xs : List X) → All (λ x. p x ≡ q x) xs → list_any p xs ≡ list_any q xs
any_on p q [] same = refl
any_on p q (x ∷ xs) same = rw (same 0 x (omega arith), any_on p q xs (λ k d within. same (suc k) d (omega arith))) refl

pub any_none : {X : Type 0} (xs : List X) → list_any (λ x. false) xs ≡ false
any_none [] = refl
any_none (x ∷ xs) = any_none xs

pub any_and : {X : Type 0} (b : Bool) (p : X → Bool) (xs : List X) → list_any (λ x. b && p x) xs ≡ (b && list_any p xs)
any_and true p xs = refl
any_and false p xs = any_none xs

pub any_flat_map : {X A : Type 0} (p : A → Bool) (f : X → List A) (xs : List X)
    → list_any p (flat_map f xs) ≡ list_any (λ x. list_any p (f x)) xs
any_flat_map p f [] = refl
any_flat_map p f (x ∷ xs) =
    list_any-append p (f x) (flat_map f xs) ∙ ap (λ rest. list_any p (f x) || rest) (any_flat_map p f xs)

pub any_filter : {X : Type 0} (p q : X → Bool) (xs : List X) → list_any q (filter p xs) ≡ list_any (λ x. p x && q x) xs
any_filter p q [] = refl
any_filter p q (x ∷ xs) = elim (cases_Bool (p x)) [
  | inl passes ↦ rw passes (ap (λ rest. q x || rest) (any_filter p q xs))
  | inr fails ↦ rw fails (any_filter p q xs)
]

-- some element passes a test where the test keeps any
pub any_is_kept : {X : Type 0} (p : X → Bool) (xs : List X) → list_any p xs ≡ nat_lt 0 (length (filter p xs))
any_is_kept p [] = refl
any_is_kept p (x ∷ xs) = elim (cases_Bool (p x)) [
  | inl passes ↦ rw passes (sym (lt-ltb 0 (length (x ∷ filter p xs)) (omega arith)))
  | inr fails ↦ rw fails (any_is_kept p xs)
]

-- tests that agree on the elements of a list keep the same of them
pub filter_on : {X : Type 0} (p q : X → Bool) (xs : List X) → All (λ x. p x ≡ q x) xs → filter p xs ≡ filter q xs
filter_on p q [] same = refl
filter_on p q (x ∷ xs) same =
    rw (same 0 x (omega arith))
    (ap (λ rest. cond (q x) (x ∷ rest) rest) (filter_on p q xs (λ k d within. same (suc k) d (omega arith))))

-- ---- numbers

-- numbers rise if each was found below the next
pub rises_where_checked : (xs : List ℕ) (b : Bool) → IsAllAdjacentAnswer (λ x y b. b ≡ ltb x y) xs b
    → b ≡ true → IsStrictlyIncreasing xs
rises_where_checked xs true below is k within = ltb-true _ _ (sym (below k 0 within))
rises_where_checked xs false below is k within = absurd (true≢false (sym is))

-- a number is in what a filter keeps where it passes and is in the list
pub is_in-filter : (p : ℕ → Bool) (xs : List ℕ) (i : ℕ) → is_in (filter p xs) i ≡ (p i && is_in xs i)
is_in-filter p xs i = any-filter_same (nat_eq i) p (p i) (λ k same. ap p (sym (eqb-true i k same))) xs

or_twice : (a b c : Bool) → a ≡ b → (a || c) ≡ (a || (b || c))
or_twice true b c same = refl
or_twice false b c same = rw (sym same) refl

any-dedup_from : (p : ℕ → Bool) (k : ℕ) (xs : List ℕ) → list_any p (dedup_from nat_eq k xs) ≡ (p k || list_any p xs)
any-dedup_from p k [] = refl
any-dedup_from p k (x ∷ xs) = elim (cases_Bool (nat_eq x k)) [
  | inl same ↦ rw same (any-dedup_from p k xs ∙ or_twice (p k) (p x) (list_any p xs) (ap p (sym (eqb-true x k same))))
  | inr other ↦ rw other (ap (λ rest. p k || rest) (any-dedup_from p x xs))
]

-- what a list has, it has without its doubles
pub any-dedup : (p : ℕ → Bool) (xs : List ℕ) → list_any p (dedup nat_eq xs) ≡ list_any p xs
any-dedup p [] = refl
any-dedup p (x ∷ xs) = any-dedup_from p x xs

abbrev pub Rises : List ℕ → Type 0
Rises xs = AllPairs (λ x y. x < y) xs

-- numbers from one on rise
pub range_rises : (a n : ℕ) → Rises (range_with_len a n)
range_rises a n i j d before within =
    let long = length-range_with_len a n in
    let first = get_or-range_with_len a n i d (omega arith) in
    let second = get_or-range_with_len a n j d (omega arith) in
    omega arith

rest_rises : (x : ℕ) (xs : List ℕ) → Rises (x ∷ xs) → Rises xs
rest_rises x xs rises i j d before within = rises (suc i) (suc j) d (omega arith) (omega arith)

none_below : (x : ℕ) (xs : List ℕ) → Rises (x ∷ xs) → (i : ℕ) → i ≤ x → is_in xs i ≡ false
none_below x xs rises i low =
    list_any_none (nat_eq i) xs
    (λ k d within. (let up = rises 0 (suc k) d (omega arith) (omega arith) in ne_eqb _ _ (λ same. omega arith)))

itself : (x : ℕ) (xs : List ℕ) → is_in (x ∷ xs) x ≡ true
itself x xs = rw (eq-eqb x x refl) refl

absent : (x y : ℕ) (ys : List ℕ) → Rises (y ∷ ys) → x < y → is_in (y ∷ ys) x ≡ false
absent x y ys rises low = rw (ne_eqb x y (λ same. omega arith)) (none_below y ys rises x (omega arith))

rest_same : (i x y : ℕ) (xs ys : List ℕ) → Rises (x ∷ xs) → Rises (y ∷ ys) → x ≡ y
    → is_in (x ∷ xs) i ≡ is_in (y ∷ ys) i → is_in xs i ≡ is_in ys i
rest_same i x y xs ys one other equal same = elim (cases_eq i x) [
  | inl here ↦ none_below x xs one i (omega arith) ∙ sym (none_below y ys other i (omega arith))
  | inr apart ↦ (
      let first : nat_eq i x ≡ false = ne_eqb i x apart in
      let second : nat_eq i y ≡ false = ne_eqb i y (λ e. apart (e ∙ sym equal)) in
      sym (ap (λ b. b || is_in xs i) first) ∙ same ∙ ap (λ b. b || is_in ys i) second)
]

-- rising lists of the same numbers are the same
pub same_numbers : (xs ys : List ℕ) → Rises xs → Rises ys → ((i : ℕ) → is_in xs i ≡ is_in ys i) → xs ≡ ys
same_numbers [] [] one other same = refl
same_numbers [] (y ∷ ys) one other same = absurd (true≢false (sym (itself y ys) ∙ sym (same y)))
same_numbers (x ∷ xs) [] one other same = absurd (true≢false (sym (itself x xs) ∙ same x))
same_numbers (x ∷ xs) (y ∷ ys) one other same = elim (cases_order x y) [
  | inl equal ↦
      (let rest = same_numbers xs ys (rest_rises x xs one) (rest_rises y ys other) (λ i. rest_same i x y xs ys one other equal (same i)) in rw (equal, rest) refl)
  | inr (inl low) ↦ absurd (true≢false (sym (itself x xs) ∙ same x ∙ absent x y ys other low))
  | inr (inr high) ↦ absurd (true≢false (sym (itself y ys) ∙ sym (same y) ∙ absent y x xs one high))
]
