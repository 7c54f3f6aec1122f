-- Sets of predicates as the bits of a number.
use Rattle.std.proofs.Common.{◌≡◌, ◌≢◌, ◌⊎◌, ◌↔◌, ℕ, ◌+◌, ◌-◌, ◌*◌, ◌/◌, ◌%◌, ◌^◌, ◌<◌, ◌≤◌, max, min, inl, inr, sym, ◌∙◌, ap, subst, arith, bit_and, bit_or}
use Rattle.std.proofs.lemmas.Bool.Decides.{eqb_tells}
use Rattle.std.specs.Int.{bit_at, w64, trailing_zeros}
use Rattle.std.proofs.lemmas.Nat.{and_le_l, and_le_r}
use Rattle.std.proofs.lemmas.Nat.Bits.{bit_at_or, bit_at_and, bit_at-pow_same, bit_at-pow_other, bit_at-lt, bit_at-zero, bit_at-trailing_zeros, bit_at_cat_low, bit_at_cat_high, bit_at_ones_above, same_from_bits_below}
use Rattle.std.proofs.lemmas.Nat.{pow_pos}
use Rattle.std.proofs.Math.Nat.{mod-lt}
use Rattle.std.proofs.Math.Pow.{pow-lt, ones_lt}
use Rattle.std.proofs.lemmas.Bool.{cases_order, cases_lt}
use Rattle.policy_expr.specs.Sets.{Has}
use Rattle.policy_expr.specs.inner.Sets.{IsSplit}

-- no predicate is in 0
pub none_has : (k : ℕ) → Has 0 k → ⊥
unfolding Has
none_has k has = let e : bit_at 0 k ≡ 1 = has in omega (arith, bit_at-zero k)

-- the power alone
pub only_has : (number k : ℕ) → Has (2 ^ number) k ↔ (k ≡ number)
unfolding Has
only_has number k = (
  λ has. elim (eqb_tells k number) [
    | inl same ↦ same.1
    | inr other ↦ let e : 0 ≡ 1 = sym (bit_at-pow_other number k other.1) ∙ has in absurd (omega arith)
  ],
  λ e. rw e (bit_at-pow_same number),
)

max_is_one : (x y : ℕ) → x < 2 → max x y ≡ 1 → (x ≡ 1) ⊎ (y ≡ 1)
max_is_one x y small e = elim (eqb_tells x 1) [ inl same ↦ inl same.1 | inr other ↦ (let ne : x ≢ 1 = other.1 in inr (omega arith)) ]

-- one of two bits
pub or_has : (a b k : ℕ) → Has (bit_or a b) k ↔ (Has a k ⊎ Has b k)
unfolding Has
or_has a b k = (
  λ has. max_is_one _ _ (bit_at-lt a k) (sym (bit_at_or a b k) ∙ has),
  λ either. bit_at_or a b k ∙ elim either [
    | inl in_a ↦ omega (arith, bit_at-lt b k)
    | inr in_b ↦ omega (arith, bit_at-lt a k)
  ],
)

-- both bits
pub and_has : (a b k : ℕ) → Has (bit_and a b) k ↔ (Has a k × Has b k)
unfolding Has
and_has a b k = (
  λ has. let e : min (bit_at a k) (bit_at b k) ≡ 1 = sym (bit_at_and a b k) ∙ has in
      (omega (arith, bit_at-lt a k, bit_at-lt b k, e), omega (arith, bit_at-lt a k, bit_at-lt b k, e)),
  λ both. bit_at_and a b k ∙ omega (arith, both.0, both.1),
)

-- a bit is set or not
not_has : (n k : ℕ) → (Has n k → ⊥) → bit_at n k ≡ 0
unfolding Has
not_has n k none = let ne : bit_at n k ≢ 1 = none in omega (arith, bit_at-lt n k, ne)

-- ---- the lowest bit of a number, and the number without it

quotient_and_rest : (n m : ℕ) → n / m * m + n % m ≡ n
quotient_and_rest n m = omega arith

-- the low digits are that bit alone
low_digits : (n t : ℕ) → bit_at n t ≡ 1 → ((i : ℕ) → i < t → bit_at n i ≡ 0) → n % 2 ^ (t + 1) ≡ 2 ^ t
low_digits n t one none =
    same_from_bits_below (t + 1) (n % 2 ^ (t + 1)) (2 ^ t) (mod-lt n (pow_pos (t + 1))) (pow-lt (omega arith))
    (λ i h. sym (bit_at_cat_low (n / 2 ^ (t + 1)) (t + 1) (n % 2 ^ (t + 1)) i h) ∙ ap (λ m. bit_at m i) (quotient_and_rest n (2 ^ (t + 1)))
    ∙ elim (eqb_tells i t) [
      | inl same ↦ subst (λ j. bit_at n j ≡ bit_at (2 ^ t) j) (sym same.1) (one ∙ sym (bit_at-pow_same t))
      | inr other ↦ none i (let ne = other.1 in omega (arith, ne)) ∙ sym (bit_at-pow_other t i other.1)
    ])

module _ (n t : ℕ) (one : bit_at n t ≡ 1) (none : (i : ℕ) → i < t → bit_at n i ≡ 0) where
  -- the number, and one less
  whole : n / 2 ^ (t + 1) * 2 ^ (t + 1) + 2 ^ t ≡ n
  whole = ap (λ r. n / 2 ^ (t + 1) * 2 ^ (t + 1) + r) (sym (low_digits n t one none)) ∙ quotient_and_rest n (2 ^ (t + 1))

  less : n / 2 ^ (t + 1) * 2 ^ (t + 1) + (2 ^ t - 1) ≡ n - 1
  less = omega (arith, whole, pow_pos t)

  higher : (i : ℕ) → t < i → bit_at (n - 1) i ≡ bit_at n i
  higher i h =
      ap (λ m. bit_at m i) (sym less)
      ∙ bit_at_cat_high (n / 2 ^ (t + 1)) (t + 1) (2 ^ t - 1) i (omega (arith, ones_lt t, pow-lt {i = t} {j = t + 1} (omega arith))) (omega arith)
      ∙ sym (bit_at_cat_high (n / 2 ^ (t + 1)) (t + 1) (2 ^ t) i (pow-lt (omega arith)) (omega arith))
      ∙ ap (λ m. bit_at m i) whole

  cleared : bit_at (n - 1) t ≡ 0
  cleared = ap (λ m. bit_at m t) (sym less) ∙ bit_at_cat_low (n / 2 ^ (t + 1)) (t + 1) (2 ^ t - 1) t (omega arith) ∙ bit_at_ones_above t t (omega arith)

-- a number that has no bit
zero_has : (n k : ℕ) → n ≡ 0 → Has n k → ⊥
zero_has n k e has = none_has k (subst (λ (s : ℕ). Has s k) e has)

-- the lowest predicate of a set
record IsLowest (set number : ℕ) : Type 0 where
  there : Has set number
  least : (k : ℕ) → k < number → Has set k → ⊥

-- `n & (n - 1)` drops the lowest bit
split_bits : (n number : ℕ) → IsLowest n number → IsSplit n number (bit_and n (n - 1))
unfolding Has
split_bits n number is_lowest =
    let one = is_lowest.there in
    let none : (i : ℕ) → i < number → bit_at n i ≡ 0 = λ i h. not_has n i (is_lowest.least i h) in
    record {
      there = one;
      rest = λ k. (
        λ has. let both = (and_has n (n - 1) k).0 has in (
          both.0,
          λ same. let zero_there : bit_at (n - 1) k ≡ 0 = subst (λ j. bit_at (n - 1) j ≡ 0) (sym same) (cleared n number one none) in
              let f : 1 ≡ 0 = sym both.1 ∙ zero_there in absurd (omega arith),
        ),
        λ both. (and_has n (n - 1) k).1 (
          both.0,
          elim (cases_order k number) [
            | inl same ↦ absurd (both.1 same)
            | inr apart ↦ elim apart [
              | inl below ↦ absurd (is_lowest.least k below both.0)
              | inr above ↦ higher n number one none k above ∙ both.0
            ]
          ],
        ),
      );
      smaller = let some : 0 < n = omega (arith, whole n number one none, pow_pos number) in omega (arith, and_le_r n (n - 1));
    }

-- the lowest set bit
lowest_bit : (n : ℕ) → 0 < n → n < 2 ^ 64 → IsLowest n (trailing_zeros w64 n)
unfolding Has
lowest_bit n some fits =
    let t = bit_at-trailing_zeros w64 n some fits in
    record {
      there = t.1;
      least = λ k below has. let f : 1 ≡ 0 = sym has ∙ t.2 k below in absurd (omega arith);
    }

wrapped : (n : ℕ) → 0 < n → n < 2 ^ 64 → (n + 18446744073709551615) % 18446744073709551616 ≡ n - 1
wrapped n some fits = omega arith

-- the lowest bit of a half, and the half without it
pub split_half : (n : ℕ) → 0 < n → n < 2 ^ 64
    → IsSplit n (trailing_zeros w64 n) (bit_and n ((n + 18446744073709551615) % 18446744073709551616))
split_half n some fits = rw (wrapped n some fits) (split_bits n (trailing_zeros w64 n) (lowest_bit n some fits))

pub lowest_below : (n : ℕ) → 0 < n → n < 2 ^ 64 → trailing_zeros w64 n < 64
lowest_below n some fits = (bit_at-trailing_zeros w64 n some fits).0

pub half_smaller : (n : ℕ) → n < 2 ^ 64 → bit_and n ((n + 18446744073709551615) % 18446744073709551616) < 2 ^ 64
half_smaller n fits = let s = and_le_l n ((n + 18446744073709551615) % 18446744073709551616) in omega (arith, s)

-- ---- sets in two halves

-- a predicate of the low half, and one of the high half
in_low : (high low k : ℕ) → k < 64 → Has (high * 2 ^ 64 + low) k ↔ Has low k
unfolding Has
in_low high low k below = let e = bit_at_cat_low high 64 low k below in (λ has. sym e ∙ has, λ has. e ∙ has)

in_high : (high low k : ℕ) → low < 2 ^ 64 → 64 ≤ k → Has (high * 2 ^ 64 + low) k ↔ Has high (k - 64)
unfolding Has
in_high high low k fits above = let e = bit_at_cat_high high 64 low k fits above in (λ has. sym e ∙ has, λ has. e ∙ has)

-- a predicate stands in the low half or in the high one
in_half : (k : ℕ) → (k < 64) ⊎ (64 ≤ k)
in_half k = cases_lt k 64

-- the low half loses a predicate
pub split_low : (high low number others : ℕ) → low < 2 ^ 64 → others < 2 ^ 64 → number < 64 → IsSplit low number others
    → IsSplit (high * 2 ^ 64 + low) number (high * 2 ^ 64 + others)
split_low high low number others fits others_fit below split = record {
  there = (in_low high low number below).1 split.there;
  rest = λ k. elim (in_half k) [
    | inl k_low ↦ (
      λ has. let r = (split.rest k).0 ((in_low high others k k_low).0 has) in ((in_low high low k k_low).1 r.0, r.1),
      λ r. (in_low high others k k_low).1 ((split.rest k).1 ((in_low high low k k_low).0 r.0, r.1)),
    )
    | inr k_high ↦ (
      λ has. (
        (in_high high low k fits k_high).1 ((in_high high others k others_fit k_high).0 has),
        λ same. absurd (omega (arith, same, below, k_high)),
      ),
      λ r. (in_high high others k others_fit k_high).1 ((in_high high low k fits k_high).0 r.0),
    )
  ];
  smaller = let s = split.smaller in omega (arith, s);
}

-- the high half loses a predicate
pub split_high : (high low number others : ℕ) → low < 2 ^ 64 → IsSplit high number others
    → IsSplit (high * 2 ^ 64 + low) (64 + number) (others * 2 ^ 64 + low)
split_high high low number others fits split =
    let back : 64 + number - 64 ≡ number = omega arith in
    record {
      there = (in_high high low (64 + number) fits (omega arith)).1 (rw back split.there);
      rest = λ k. elim (in_half k) [
        | inl k_low ↦ (
          λ has. ((in_low high low k k_low).1 ((in_low others low k k_low).0 has), λ same. absurd (omega (arith, same, k_low))),
          λ r. (in_low others low k k_low).1 ((in_low high low k k_low).0 r.0),
        )
        | inr k_high ↦ (
          λ has. let r = (split.rest (k - 64)).0 ((in_high others low k fits k_high).0 has) in
              ((in_high high low k fits k_high).1 r.0, λ same. r.1 (omega (arith, same))),
          λ r. let apart = r.1 in
              (in_high others low k fits k_high).1 ((split.rest (k - 64)).1
              ((in_high high low k fits k_high).0 r.0, λ same. apart (omega (arith, same, k_high)))),
        )
      ];
      smaller = let s = split.smaller in omega (arith, s);
    }

-- a half that is empty has no predicate
pub none_low : (high low k : ℕ) → low ≡ 0 → k < 64 → Has (high * 2 ^ 64 + low) k → ⊥
none_low high low k none below has = zero_has low k none ((in_low high low k below).0 has)

pub none_high : (high low k : ℕ) → low < 2 ^ 64 → high ≡ 0 → 64 ≤ k → Has (high * 2 ^ 64 + low) k → ⊥
none_high high low k fits none above has = zero_has high (k - 64) none ((in_high high low k fits above).0 has)
