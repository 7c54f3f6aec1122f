-- A number of few digits can be read.
use Rattle.std.proofs.Common.{◌≡◌, ℕ, ◌^◌, ◌<◌, ◌≤◌, true, false, eqb, ltb, leb, ◌&&◌, List, [], ◌∷◌, ◌++◌, length, get_or, is_some, refl, sym, ap, ◌∙◌, arith, append-nil}
use Rattle.std.specs.Char.{digit_value, is_ascii_digit}
use Rattle.std.specs.List.{list_all}
use Rattle.std.specs.Str.Parse.{AllDigits, digits_value}
use Rattle.std.proofs.lemmas.Bool.{and_parts, ltb-true, leb-true, lt-ltb, ne_eqb}
use Rattle.std.proofs.lemmas.Float.Parse.{scan_numeral-text_of}
use Rattle.std.proofs.lemmas.Int.Digits.{digits_value-lt}
use Rattle.std.proofs.lemmas.Str.{digit_value_digit}
use Rattle.std.proofs.Math.Nat.{pow-le-pow_right}
use Rattle.fast_float.specs.Text.{Parts, scan}
use Rattle.serde_json.specs.Read.{number_of}
use Rattle.json_fields.specs.inner.Numbers.{is_short_digits}
use Rattle.json_fields.proofs.Signs.{unsigned_number}

digit_is_small : (b : ℕ) → is_ascii_digit b ≡ true → (digit_value b < 10) × (eqb b 45 ≡ false)
digit_is_small b digit =
    let parts = and_parts (leb 48 b) (leb b 57) digit in
    let low = leb-true 48 b parts.0 in
    let high = leb-true b 57 parts.1 in
    let value = digit_value_digit b (low, high) in
    (omega arith, ne_eqb b 45 (λ e. omega arith))

AllDigits-list_all : (text : List ℕ) → list_all is_ascii_digit text ≡ true → AllDigits 10 text
AllDigits-list_all [] passed = tt
AllDigits-list_all (b ∷ text) passed =
    let parts = and_parts (is_ascii_digit b) (list_all is_ascii_digit text) passed in
    ((digit_is_small b parts.0).0, AllDigits-list_all text parts.1)

-- the first of some digits is no minus
has_no_minus : (text : List ℕ) → 0 < length text → list_all is_ascii_digit text ≡ true → eqb (get_or text 0 0) 45 ≡ false
has_no_minus [] some passed = absurd (omega arith)
has_no_minus (b ∷ text) some passed = (digit_is_small b (and_parts (is_ascii_digit b) (list_all is_ascii_digit text) passed).0).1

-- what is scanned of a text of digits
abbrev parts_of : List ℕ → Parts
parts_of text = record { whole = text; point = false; fraction = []; exponent_negative = false; exponent = []; len = length text }

scan-digits : (text : List ℕ) → AllDigits 10 text → scan text ≡ parts_of text
scan-digits text all =
    let back = scan_numeral-text_of (parts_of text) (record { whole_digits = all; fraction_digits = tt; exponent_digits = tt; no_point = λ e. refl; no_exponent = λ e. refl; len_is = ap length (sym (append-nil text)) }) in
    ap scan (sym (append-nil text)) ∙ back

pub short_digits_are_read : (text : List ℕ) → is_short_digits text ≡ true → is_some (number_of text) ≡ true
short_digits_are_read text short =
    let parts = and_parts (ltb 0 (length text) && ltb (length text) 20) (list_all is_ascii_digit text) short in
    let bounds = and_parts (ltb 0 (length text)) (ltb (length text) 20) parts.0 in
    let some = ltb-true 0 (length text) bounds.0 in
    let few = ltb-true (length text) 20 bounds.1 in
    let all = AllDigits-list_all text parts.1 in
    let value = digits_value-lt 10 text all in
    let short_enough : length text ≤ 19 = omega arith in
    let most : 10 ^ length text ≤ 10 ^ 19 = pow-le-pow_right (omega arith) short_enough in
    let fits : digits_value 10 (text ++ []) < 2 ^ 64 = rw (append-nil text) (omega arith) in
    rw (unsigned_number text (has_no_minus text some parts.1), scan-digits text all, lt-ltb 0 (length text) some, lt-ltb _ _ fits) refl
