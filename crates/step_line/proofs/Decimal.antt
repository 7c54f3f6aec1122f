-- Decimal digits that the standard reader refuses are past the highest number.
use Rattle.std.proofs.Common.{◌≡◌, ℕ, ◌^◌, ◌<◌, ◌≤◌, true, length, None, arith, inl, inr, lt-ltb, refl}
use Rattle.std.specs.Prelude.{List}
use Rattle.std.specs.Str.Parse.{IsNumeral, digits_value, without_leading_plus}
use Rattle.std.proofs.lemmas.Bool.{cases_lt, lt-leb, le-leb}
use Rattle.isd_as.specs.Reading.{all_digits}
use Rattle.isd_as.proofs.Digits.{AllDigits-all_digits, without_leading_plus-AllDigits}
use Rattle.step_line.specs.Fields.{bounded_number_at}

pub number_at-refused : (low high : ℕ) (text : List ℕ) → low < 2 ^ 64 → high < 2 ^ 64 → 0 < length text
    → all_digits 10 text ≡ true
    → ¬ (IsNumeral 10 (without_leading_plus text) × (digits_value 10 (without_leading_plus text) < 2 ^ 64))
    → bounded_number_at low high text ≡ None
unfolding bounded_number_at
number_at-refused low high text small bound some passed refused =
    let all = AllDigits-all_digits 10 text passed in
    let same = without_leading_plus-AllDigits 10 text (omega arith) all in
    let value = digits_value 10 text in
    let large : 2 ^ 64 ≤ value = elim (cases_lt value (2 ^ 64)) [
      | inl below ↦ absurd (refused (rw same ((some, all), below)))
      | inr past ↦ past
    ] in
    let above : low ≤ value = omega arith in
    let past : high < value = omega arith in
    rw (lt-ltb 0 (length text) some, passed, le-leb low value above, lt-leb value high past) refl
