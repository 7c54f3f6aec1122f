-- The digits that are printed: their steps, their lengths, and that they are read as the number.
use Rattle.std.proofs.Common.{◌≡◌, ℕ, zero, suc, ◌+◌, ◌*◌, ◌/◌, ◌%◌, ◌^◌, ◌<◌, ◌≤◌, true, false, eqb, List, [], ◌∷◌, ◌++◌, length, refl, sym, ap, ◌∙◌, arith, append_assoc, length-append, inl, inr}
use Rattle.std.specs.Fmt.{digits, digits_onto, digit_glyph}
use Rattle.std.proofs.lemmas.Bool.{cases_Bool, cases_lt, eq-eqb, ne_eqb}
use Rattle.std.proofs.Math.Nat.{div-lt_iff_lt-mul, div-eq_of_lt, pow-le-pow_left, pow-le-pow_right, pow-suc, mod-eq_of_lt, div-le_self}
use native.Mathlib.Numerals.{unary_clauses}

-- the last digit is what is written first
onto_append : (k base n : ℕ) (acc : List ℕ) → digits_onto k base false n acc ≡ digits_onto k base false n [] ++ acc
onto_append zero base n acc = refl
onto_append (suc k) base n acc =
    let g = digit_glyph false (n % base) in
    elim (cases_Bool (eqb (n / base) 0)) [
      | inl one ↦ rw one refl
      | inr more ↦ rw more (onto_append k base (n / base) (g ∷ acc) ∙ sym (append_assoc (digits_onto k base false (n / base) []) (g ∷ []) acc) ∙ ap (λ (ds : List ℕ). ds ++ acc) (sym (onto_append k base (n / base) (g ∷ []))))
    ]

-- what is left of a number of k + 1 digits has k
quotient_lt : (k base n : ℕ) → 0 < base → n < base ^ suc k → n / base < base ^ k
quotient_lt k base n some below = (div-lt_iff_lt-mul {k = base} {x = n} {y = base ^ k} some).1 (rw pow-suc at below)

-- no more places are used than the number has digits
onto_more : (k base n : ℕ) (acc : List ℕ) → 0 < base → n < base ^ suc k → digits_onto (suc (suc k)) base false n acc ≡ digits_onto (suc k) base false n acc
onto_more zero base n acc some below =
    let none : n / base < 1 = simp unary_clauses at (quotient_lt zero base n some below) in
    let is_zero : eqb (n / base) 0 ≡ true = eq-eqb (n / base) 0 (omega arith) in
    rw is_zero refl
onto_more (suc k) base n acc some below =
    let g = digit_glyph false (n % base) in
    elim (cases_Bool (eqb (n / base) 0)) [
      | inl one ↦ rw one refl
      | inr more ↦ rw more (onto_more k base (n / base) (g ∷ acc) some (quotient_lt (suc k) base n some below))
    ]

-- `digits` has 64 places
digits-onto : (k base n : ℕ) → k ≡ 64 → digits base false n ≡ digits_onto k base false n []
unfolding digits
digits-onto k base n e = ap (λ (j : ℕ). digits_onto j base false n []) (sym e)

one_digit : (k base n : ℕ) → n < base → digits_onto (suc k) base false n [] ≡ digit_glyph false n ∷ []
one_digit k base n below =
    let none : n / base ≡ 0 = div-eq_of_lt below in
    let same : n % base ≡ n = mod-eq_of_lt below in
    rw (eq-eqb (n / base) 0 none, same) refl

-- a number below the base has one digit
pub digits_one : (base n : ℕ) → n < base → digits base false n ≡ digit_glyph false n ∷ []
digits_one base n below = digits-onto (suc 63) base n refl ∙ one_digit 63 base n below

last_digit : (k base n : ℕ) → 0 < base → base ≤ n → n / base < base ^ suc k → digits_onto (suc (suc k)) base false n [] ≡ digits_onto (suc (suc k)) base false (n / base) [] ++ (digit_glyph false (n % base) ∷ [])
last_digit k base n some above below =
    let g = digit_glyph false (n % base) in
    let left : (n / base ≡ 0) → ⊥ = λ none. (let small : n / base < 1 = omega arith in let lt : n < 1 * base = (div-lt_iff_lt-mul {k = base} {x = n} {y = 1} some).0 small in omega arith) in
    rw (ne_eqb (n / base) 0 left) (onto_append (suc k) base (n / base) (g ∷ []) ∙ ap (λ (ds : List ℕ). ds ++ (g ∷ [])) (sym (onto_more k base (n / base) [] some below)))

-- any other has the digits of what is left without its last one, and that one
pub digits_more : (base n : ℕ) → 0 < base → base ≤ n → n / base < base ^ 63 → digits base false n ≡ digits base false (n / base) ++ (digit_glyph false (n % base) ∷ [])
digits_more base n some above below =
    digits-onto (suc (suc 62)) base n refl ∙ last_digit 62 base n some above below
    ∙ ap (λ (ds : List ℕ). ds ++ (digit_glyph false (n % base) ∷ [])) (sym (digits-onto (suc (suc 62)) base (n / base) refl))

-- so have the numbers that the program prints
pub digits_of_large : (base n : ℕ) → 10 ≤ base → base ≤ n → n < 2 ^ 64 → digits base false n ≡ digits base false (n / base) ++ (digit_glyph false (n % base) ∷ [])
digits_of_large base n ten above fits =
    let wide : 10 ^ 63 ≤ base ^ 63 = pow-le-pow_left ten 63 in
    let left = div-le_self n base in
    digits_more base n (omega arith) above (omega arith)

pub length-digits_of_large : (base n : ℕ) → 10 ≤ base → base ≤ n → n < 2 ^ 64 → length (digits base false n) ≡ length (digits base false (n / base)) + 1
length-digits_of_large base n ten above fits =
    rw (digits_of_large base n ten above fits) (omega (arith, length-append (digits base false (n / base)) (digit_glyph false (n % base) ∷ [])))

-- a number below the k-th power of the base has at most k digits
pub length-digits-le : (k base n : ℕ) → 0 < base → n < base ^ suc k → k < 62 → length (digits base false n) ≤ suc k
length-digits-le zero base n some below few =
    let product = rw pow-suc at below in
    let plain = simp unary_clauses at product in
    let small : n < base = omega arith in
    rw (digits_one base n small) (omega arith)
length-digits-le (suc k) base n some below few = elim (cases_lt n base) [
  | inl small ↦ rw (digits_one base n small) (omega arith)
  | inr large ↦ (
      let left = quotient_lt (suc k) base n some below in
      let fits : base ^ suc k ≤ base ^ 63 = pow-le-pow_right some (omega arith) in
      let shorter = length-digits-le k base (n / base) some left (omega arith) in
      rw (digits_more base n some large (omega arith)) (omega (arith, length-append (digits base false (n / base)) (digit_glyph false (n % base) ∷ [])))
      )
]
