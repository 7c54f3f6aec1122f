-- Texts of digits: the test of each byte, and what the standard reader of numbers makes of them.
use Rattle.std.proofs.Common.{◌≡◌, ℕ, ◌^◌, ◌<◌, ◌≤◌, ◌≢◌, true, ltb, List, [], ◌∷◌, length, Err, refl, ap, arith, inl, inr}
use Rattle.std.specs.Char.{digit_value}
use Rattle.std.specs.Str.Parse.{AllDigits, IsNumeral, digits_value, without_leading_plus}
use Rattle.std.proofs.lemmas.Bool.{and_parts, and_from, ltb-true, lt-ltb, le-ltb, cases_lt}
use Rattle.std.proofs.lemmas.Str.Parse.{without_leading_plus_none}
use Rattle.isd_as.specs.declared.fault.AddrFault.{AddrFault}
use Rattle.isd_as.specs.Reading.{all_digits, number_at}

-- the test of each byte passes only where each is a digit
pub AllDigits-all_digits : (radix : ℕ) (text : List ℕ) → all_digits radix text ≡ true → AllDigits radix text
AllDigits-all_digits radix [] passed = tt
AllDigits-all_digits radix (b ∷ text) passed =
    let parts = and_parts (ltb (digit_value b) radix) (all_digits radix text) passed in
    (ltb-true _ _ parts.0, AllDigits-all_digits radix text parts.1)

-- and it passes wherever each is one
pub all_digits-AllDigits : (radix : ℕ) (text : List ℕ) → AllDigits radix text → all_digits radix text ≡ true
all_digits-AllDigits radix [] all = refl
all_digits-AllDigits radix (b ∷ text) all =
    and_from (ltb (digit_value b) radix) (all_digits radix text) (lt-ltb _ _ all.0) (all_digits-AllDigits radix text all.1)

-- a plus is no digit
plus_is_none : (radix b : ℕ) → radix ≤ 16 → digit_value b < radix → b ≢ 43
plus_is_none radix b small digit is_plus = let e : digit_value b ≡ 36 = ap digit_value is_plus in omega arith

-- so a text of digits has none to drop
pub without_leading_plus-AllDigits : (radix : ℕ) (text : List ℕ) → radix ≤ 16 → AllDigits radix text → without_leading_plus text ≡ text
without_leading_plus-AllDigits radix [] small all = refl
without_leading_plus-AllDigits radix (b ∷ text) small all = without_leading_plus_none (b ∷ text) (plus_is_none radix b small all.0)

-- digits that the standard reader refuses are a number past each limit
pub number_at-too_large : (radix limit : ℕ) (e : AddrFault) (text : List ℕ) → radix ≤ 16 → limit ≤ 2 ^ 64 → 0 < length text → all_digits radix text ≡ true → ¬ (IsNumeral radix (without_leading_plus text) × (digits_value radix (without_leading_plus text) < 2 ^ 64)) → number_at radix limit e text ≡ Err e
unfolding number_at
number_at-too_large radix limit e text small limited some passed refused =
    let all = AllDigits-all_digits radix text passed in
    let same = without_leading_plus-AllDigits radix text small all in
    let large : limit ≤ digits_value radix text = elim (cases_lt (digits_value radix text) (2 ^ 64)) [
      | inl below ↦ absurd (refused (rw same ((some, all), below)))
      | inr past ↦ omega arith
    ] in
    rw (lt-ltb 0 (length text) some, passed, le-ltb (digits_value radix text) limit large) refl
