-- The canonical text spells its number, and is short.
use Rattle.std.proofs.Common.{ℕ, ◌/◌, ◌%◌, ◌^◌, ◌<◌, ◌≤◌, false, List, ◌∷◌, ◌++◌, length, refl, arith, length-append, inl, inr}
use Rattle.std.specs.Fmt.{digits, decimal}
use Rattle.std.proofs.lemmas.Bool.{cases_lt, lt-ltb, le-ltb}
use Rattle.std.proofs.lemmas.Fmt.{decimal_is_IsNumeral, digits_is_IsNumeral}
use Rattle.isd_as.specs.Address.{dash, colon, IsNumeralOf, WritesGroup, SpellsIsd, SpellsGroups, SpellsAs, Spells, canonical_as, canonical}
use Rattle.isd_as.proofs.Lengths.{of_group, of_isd, of_decimal_as}

Writes-decimal : (n : ℕ) → n < 2 ^ 64 → IsNumeralOf 10 (decimal n) n
Writes-decimal n fits = let is = decimal_is_IsNumeral n fits in record { numeral = is.0; value = is.1 }

WritesGroup-digits : (n : ℕ) → n < 2 ^ 16 → WritesGroup (digits 16 false n) n
WritesGroup-digits n fits =
    let is = digits_is_IsNumeral 16 false (omega arith) (omega arith) n (omega arith) in
    record { written = record { numeral = is.0; value = is.1 }; short = of_group n fits }

-- the text of an AS number from 2 ^ 32 on
abbrev pub groups_text : ℕ → List ℕ
groups_text n = digits 16 false (n / 2 ^ 32) ++ (colon ∷ (digits 16 false (n / 2 ^ 16 % 2 ^ 16) ++ (colon ∷ digits 16 false (n % 2 ^ 16))))

SpellsGroups-text : (n : ℕ) → n < 2 ^ 48 → SpellsGroups (groups_text n) n
SpellsGroups-text n fits = record {
  high = n / 2 ^ 32;
  middle = n / 2 ^ 16 % 2 ^ 16;
  low = n % 2 ^ 16;
  first = digits 16 false (n / 2 ^ 32);
  second = digits 16 false (n / 2 ^ 16 % 2 ^ 16);
  third = digits 16 false (n % 2 ^ 16);
  parts = refl;
  of = omega arith;
  high_written = WritesGroup-digits (n / 2 ^ 32) (omega arith);
  middle_written = WritesGroup-digits (n / 2 ^ 16 % 2 ^ 16) (omega arith);
  low_written = WritesGroup-digits (n % 2 ^ 16) (omega arith);
}

pub SpellsIsd-decimal : (n : ℕ) → n < 2 ^ 16 → SpellsIsd (decimal n) n
SpellsIsd-decimal n fits = record { written = Writes-decimal n (omega arith); small = fits }

pub SpellsAs-canonical_as : (n : ℕ) → n < 2 ^ 48 → SpellsAs (canonical_as n) n
SpellsAs-canonical_as n fits = elim (cases_lt n (2 ^ 32)) [
  | inl small ↦ rw (lt-ltb n (2 ^ 32) small) (inl (record { written = Writes-decimal n (omega arith); small = small }))
  | inr large ↦ rw (le-ltb n (2 ^ 32) large) (inr (SpellsGroups-text n fits))
]

pub Spells-canonical : (a : ℕ) → a < 2 ^ 64 → Spells (canonical a) a
Spells-canonical a fits = record {
  isd = a / 2 ^ 48;
  as_number = a % 2 ^ 48;
  front = decimal (a / 2 ^ 48);
  back = canonical_as (a % 2 ^ 48);
  parts = refl;
  of = omega arith;
  isd_spelled = SpellsIsd-decimal (a / 2 ^ 48) (omega arith);
  as_spelled = SpellsAs-canonical_as (a % 2 ^ 48) (omega arith);
}

-- ---- lengths

length-groups_text-le : (n : ℕ) → n < 2 ^ 48 → length (groups_text n) ≤ 14
length-groups_text-le n fits =
    let high = of_group (n / 2 ^ 32) (omega arith) in
    let middle = of_group (n / 2 ^ 16 % 2 ^ 16) (omega arith) in
    let low = of_group (n % 2 ^ 16) (omega arith) in
    omega (
      arith,
      length-append (digits 16 false (n / 2 ^ 32)) (colon ∷ (digits 16 false (n / 2 ^ 16 % 2 ^ 16) ++ (colon ∷ digits 16 false (n % 2 ^ 16)))),
      length-append (digits 16 false (n / 2 ^ 16 % 2 ^ 16)) (colon ∷ digits 16 false (n % 2 ^ 16)),
    )

pub length-canonical_as-le : (n : ℕ) → n < 2 ^ 48 → length (canonical_as n) ≤ 14
length-canonical_as-le n fits = elim (cases_lt n (2 ^ 32)) [
  | inl small ↦ rw (lt-ltb n (2 ^ 32) small) (let len = of_decimal_as n small in omega arith)
  | inr large ↦ rw (le-ltb n (2 ^ 32) large) (length-groups_text-le n fits)
]

pub length-canonical-le : (a : ℕ) → a < 2 ^ 64 → length (canonical a) ≤ 20
length-canonical-le a fits =
    let front = of_isd (a / 2 ^ 48) (omega arith) in
    let back = length-canonical_as-le (a % 2 ^ 48) (omega arith) in
    omega (arith, length-append (decimal (a / 2 ^ 48)) (dash ∷ canonical_as (a % 2 ^ 48)))
