-- What is read is spelled, and what is spelled is read: each part of an address, and the whole.
use Rattle.std.proofs.Common.{◌≡◌, ℕ, ◌+◌, ◌*◌, ◌^◌, ◌<◌, ◌≤◌, ◌≢◌, true, false, eqb, ltb, List, [], ◌∷◌, ◌++◌, length, Result, Ok, refl, sym, ap, subst, ◌∙◌, arith, ◌&&◌, inl, inr, zero, suc}
use Rattle.std.specs.Char.{digit_value}
use Rattle.std.specs.Str.{chars, IsAscii}
use Rattle.std.specs.Str.Parse.{AllDigits, digits_value}
use Rattle.std.proofs.lemmas.Bool.{and_parts, and_from, ltb-true, lt-ltb, cases_Bool, cases_lt, ne_eqb, or_from, or_right}
use Rattle.std.proofs.lemmas.Bool.Decides.{nat_tests}
use Rattle.std.proofs.lemmas.Str.{chars-IsAscii}
use Rattle.std.proofs.lemmas.Int.Digits.{digits_value-lt}
use Rattle.std.proofs.Math.Nat.{pow-le-pow_right}
use Rattle.std.proofs.lemmas.List.Folds.{list_any-append}
use Rattle.std.specs.Option.{ok_or}
use Rattle.refusal.specs.Refusal.{◌>>=◌}
use Rattle.isd_as.specs.declared.fault.AddrFault.{AddrFault}
use Rattle.isd_as.specs.declared.fault.AddrFault.TheVariants as fault
use Rattle.isd_as.specs.Address.{dash, colon, IsNumeralOf, WritesGroup, SpellsGroups, SpellsIsd, SpellsAs, Spells}
use Rattle.isd_as.specs.Reading.{all_digits, number_at, isd_at, is_group, groups_at, as_number_at, address_at}
use Rattle.isd_as.proofs.Digits.{AllDigits-all_digits, all_digits-AllDigits}
use Rattle.refusal.proofs.Steps.{bind_ok, guard_ok, guard_not, ok_or_ok, ok_is, done}
use Rattle.separators.specs.Signs.{cut_at}
use Rattle.separators.proofs.Cut.{has_sign, cut_at-append, append-cut_at}

-- ---- digits

-- what is no digit of the radix does not stand among its digits
pub has_sign-AllDigits : (radix sign : ℕ) (text : List ℕ) → radix ≤ digit_value sign → AllDigits radix text → has_sign sign text ≡ false
has_sign-AllDigits radix sign [] none all = refl
has_sign-AllDigits radix sign (b ∷ text) none all =
    let other : b ≢ sign = λ e. let same : digit_value b ≡ digit_value sign = ap digit_value e in omega arith in
    or_from (eqb b sign) (has_sign sign text) (ne_eqb b sign other) (has_sign-AllDigits radix sign text none all.1)

-- a digit is an ASCII character
digit_is_ascii : (b : ℕ) → digit_value b < 36 → b < 128
digit_is_ascii b digit = elim (cases_lt b 128) [ inl below ↦ below | inr above ↦ absurd (grind (arith, nat_tests)) ]

-- so a text of digits has as many characters as bytes
pub IsAscii-AllDigits : (radix : ℕ) (text : List ℕ) → radix ≤ 36 → AllDigits radix text → IsAscii text
IsAscii-AllDigits radix [] small all i = omega arith
IsAscii-AllDigits radix (b ∷ text) small all zero = digit_is_ascii b (omega arith)
IsAscii-AllDigits radix (b ∷ text) small all (suc i) = IsAscii-AllDigits radix text small all.1 i

pub chars-AllDigits : (radix : ℕ) (text : List ℕ) → radix ≤ 36 → AllDigits radix text → chars text ≡ text
chars-AllDigits radix text small all = chars-IsAscii text (IsAscii-AllDigits radix text small all)

-- ---- a number

pub Writes-number_at : (radix limit : ℕ) (e : AddrFault) (text : List ℕ) (n : ℕ) → number_at radix limit e text ≡ Ok n → IsNumeralOf radix text n × (n < limit)
unfolding number_at
Writes-number_at radix limit e text n read =
    let tested = guard_ok _ _ _ _ read in
    let parts = and_parts (ltb 0 (length text)) (all_digits radix text) tested.0 in
    let fits = guard_ok (ltb (digits_value radix text) limit) (Ok (digits_value radix text)) e n tested.1 in
    let value = ok_is (digits_value radix text) n fits.1 in (
      record { numeral = (ltb-true _ _ parts.0, AllDigits-all_digits radix text parts.1); value = value },
      subst (λ (m : ℕ). m < limit) value (ltb-true (digits_value radix text) limit fits.0),
    )

pub number_at-Writes : (radix limit : ℕ) (e : AddrFault) (text : List ℕ) (n : ℕ) → IsNumeralOf radix text n → n < limit → number_at radix limit e text ≡ Ok n
unfolding number_at
number_at-Writes radix limit e text n written below =
    rw (lt-ltb 0 (length text) written.numeral.0, all_digits-AllDigits radix text written.numeral.1, written.value, lt-ltb n limit below) refl

-- ---- three groups

-- a text of 1 to 4 characters that are digits is a group
WritesGroup-number_at : (e : AddrFault) (text : List ℕ) (n : ℕ) → is_group text ≡ true → number_at 16 (2 ^ 16) e text ≡ Ok n → WritesGroup text n
WritesGroup-number_at e text n tested read =
    let written = (Writes-number_at 16 (2 ^ 16) e text n read).0 in
    let same = chars-AllDigits 16 text (omega arith) written.numeral.1 in
    let parts = and_parts (ltb 0 (length (chars text))) (ltb (length (chars text)) 5) tested in
    let few : length (chars text) < 5 = ltb-true _ _ parts.1 in
    let short : length text < 5 = rw same at few in
    record { written = written; short = omega arith }

is_group-WritesGroup : (text : List ℕ) (n : ℕ) → WritesGroup text n → is_group text ≡ true
is_group-WritesGroup text n group =
    let some = group.written.numeral.0 in
    let short = group.short in
    rw (chars-AllDigits 16 text (omega arith) group.written.numeral.1) (and_from (ltb 0 (length text)) (ltb (length text) 5) (lt-ltb _ _ some) (lt-ltb _ _ (omega arith)))

-- four hexadecimal digits write a number of 16 bits
WritesGroup-lt : (text : List ℕ) (n : ℕ) → WritesGroup text n → n < 2 ^ 16
WritesGroup-lt text n group =
    let below = digits_value-lt 16 text group.written.numeral.1 in
    let most : 16 ^ length text ≤ 16 ^ 4 = pow-le-pow_right (omega arith) group.short in
    let value = group.written.value in
    omega arith

number_at-WritesGroup : (e : AddrFault) (text : List ℕ) (n : ℕ) → WritesGroup text n → number_at 16 (2 ^ 16) e text ≡ Ok n
number_at-WritesGroup e text n group = number_at-Writes 16 (2 ^ 16) e text n group.written (WritesGroup-lt text n group)

has_colon-WritesGroup : (text : List ℕ) (n : ℕ) → WritesGroup text n → has_sign colon text ≡ false
has_colon-WritesGroup text n group = has_sign-AllDigits 16 colon text (omega arith) group.written.numeral.1

-- what follows the cuts and the tests of the groups
abbrev groups_value : List ℕ → List ℕ → List ℕ → Result ℕ AddrFault
groups_value first second third = do
  high ← number_at 16 (2 ^ 16) fault.BadGroups first
  middle ← number_at 16 (2 ^ 16) fault.BadGroups second
  low ← number_at 16 (2 ^ 16) fault.BadGroups third
  Ok (high * 2 ^ 32 + middle * 2 ^ 16 + low)

pub SpellsGroups-groups_at : (text : List ℕ) (n : ℕ) → groups_at text ≡ Ok n → SpellsGroups text n
unfolding groups_at
SpellsGroups-groups_at text n read =
    let cut = bind_ok (ok_or (cut_at colon text) fault.BadGroups) _ n read in
    let again = bind_ok (ok_or (cut_at colon cut.0.1) fault.BadGroups) _ n cut.2 in
    let no_more = guard_not (has_sign colon again.0.1) _ fault.BadGroups n again.2 in
    let tested = guard_ok (is_group cut.0.0 && is_group again.0.0 && is_group again.0.1) (groups_value cut.0.0 again.0.0 again.0.1) fault.BadGroups n no_more.1 in
    let are = and_parts (is_group cut.0.0 && is_group again.0.0) (is_group again.0.1) tested.0 in
    let are_first = and_parts (is_group cut.0.0) (is_group again.0.0) are.0 in
    let high = bind_ok (number_at 16 (2 ^ 16) fault.BadGroups cut.0.0) _ n tested.1 in
    let middle = bind_ok (number_at 16 (2 ^ 16) fault.BadGroups again.0.0) _ n high.2 in
    let low = bind_ok (number_at 16 (2 ^ 16) fault.BadGroups again.0.1) _ n middle.2 in
    let outer = append-cut_at colon text cut.0.0 cut.0.1 (ok_or_ok (cut_at colon text) fault.BadGroups cut.0 cut.1) in
    let inner = append-cut_at colon cut.0.1 again.0.0 again.0.1 (ok_or_ok (cut_at colon cut.0.1) fault.BadGroups again.0 again.1) in
    record {
      high = high.0;
      middle = middle.0;
      low = low.0;
      first = cut.0.0;
      second = again.0.0;
      third = again.0.1;
      parts = outer ∙ ap (λ (rest : List ℕ). cut.0.0 ++ (colon ∷ rest)) inner;
      of = sym {a = high.0 * 2 ^ 32 + middle.0 * 2 ^ 16 + low.0} (ok_is (high.0 * 2 ^ 32 + middle.0 * 2 ^ 16 + low.0) n low.2);
      high_written = WritesGroup-number_at fault.BadGroups cut.0.0 high.0 are_first.0 high.1;
      middle_written = WritesGroup-number_at fault.BadGroups again.0.0 middle.0 are_first.1 middle.1;
      low_written = WritesGroup-number_at fault.BadGroups again.0.1 low.0 are.1 low.1;
    }

pub groups_at-SpellsGroups : (text : List ℕ) (n : ℕ) → SpellsGroups text n → groups_at text ≡ Ok n
unfolding groups_at
groups_at-SpellsGroups text n g =
    let cut = cut_at-append colon g.first (g.second ++ (colon ∷ g.third)) (has_colon-WritesGroup g.first g.high g.high_written) in
    let again = cut_at-append colon g.second g.third (has_colon-WritesGroup g.second g.middle g.middle_written) in
    rw (
      g.parts,
      cut,
      again,
      has_colon-WritesGroup g.third g.low g.low_written,
      is_group-WritesGroup g.first g.high g.high_written,
      is_group-WritesGroup g.second g.middle g.middle_written,
      is_group-WritesGroup g.third g.low g.low_written,
      number_at-WritesGroup fault.BadGroups g.first g.high g.high_written,
      number_at-WritesGroup fault.BadGroups g.second g.middle g.middle_written,
      number_at-WritesGroup fault.BadGroups g.third g.low g.low_written,
    ) (ap (λ (m : ℕ). done m) (sym g.of))

-- ---- the two parts of an address, and the whole

pub SpellsIsd-isd_at : (text : List ℕ) (n : ℕ) → isd_at text ≡ Ok n → SpellsIsd text n
unfolding isd_at
SpellsIsd-isd_at text n read = let w = Writes-number_at 10 (2 ^ 16) fault.IsdRange text n read in record { written = w.0; small = w.1 }

pub isd_at-SpellsIsd : (text : List ℕ) (n : ℕ) → SpellsIsd text n → isd_at text ≡ Ok n
unfolding isd_at
isd_at-SpellsIsd text n s = number_at-Writes 10 (2 ^ 16) fault.IsdRange text n s.written s.small

pub SpellsAs-as_number_at : (text : List ℕ) (n : ℕ) → as_number_at text ≡ Ok n → SpellsAs text n
unfolding as_number_at
SpellsAs-as_number_at text n read = elim (cases_Bool (has_sign colon text)) [
  | inl has ↦ inr (SpellsGroups-groups_at text n (rw has at read))
  | inr lacks ↦ (let w = Writes-number_at 10 (2 ^ 32) fault.AsRange text n (rw lacks at read) in inl (record { written = w.0; small = w.1 }))
]

has_colon-SpellsGroups : (text : List ℕ) (n : ℕ) → SpellsGroups text n → has_sign colon text ≡ true
has_colon-SpellsGroups text n g =
    rw (g.parts, list_any-append (λ b. eqb b colon) g.first (colon ∷ (g.second ++ (colon ∷ g.third)))) (or_right (has_sign colon g.first) _ refl)

pub as_number_at-SpellsAs : (text : List ℕ) (n : ℕ) → SpellsAs text n → as_number_at text ≡ Ok n
unfolding as_number_at
as_number_at-SpellsAs text n (inl d) =
    rw (has_sign-AllDigits 10 colon text (omega arith) d.written.numeral.1) (number_at-Writes 10 (2 ^ 32) fault.AsRange text n d.written d.small)
as_number_at-SpellsAs text n (inr g) = rw (has_colon-SpellsGroups text n g) (groups_at-SpellsGroups text n g)

pub Spells-address_at : (text : List ℕ) (a : ℕ) → address_at text ≡ Ok a → Spells text a
unfolding address_at
Spells-address_at text a read =
    let cut = bind_ok (ok_or (cut_at dash text) fault.NoDash) _ a read in
    let isd = bind_ok (isd_at cut.0.0) _ a cut.2 in
    let as_number = bind_ok (as_number_at cut.0.1) _ a isd.2 in
    record {
      isd = isd.0;
      as_number = as_number.0;
      front = cut.0.0;
      back = cut.0.1;
      parts = append-cut_at dash text cut.0.0 cut.0.1 (ok_or_ok (cut_at dash text) fault.NoDash cut.0 cut.1);
      of = sym (ok_is (isd.0 * 2 ^ 48 + as_number.0) a as_number.2);
      isd_spelled = SpellsIsd-isd_at cut.0.0 isd.0 isd.1;
      as_spelled = SpellsAs-as_number_at cut.0.1 as_number.0 as_number.1;
    }

pub address_at-Spells : (text : List ℕ) (a : ℕ) → Spells text a → address_at text ≡ Ok a
unfolding address_at
address_at-Spells text a s =
    let cut = cut_at-append dash s.front s.back (has_sign-AllDigits 10 dash s.front (omega arith) s.isd_spelled.written.numeral.1) in
    rw (s.parts, cut, isd_at-SpellsIsd s.front s.isd s.isd_spelled, as_number_at-SpellsAs s.back s.as_number s.as_spelled) (ap (λ (m : ℕ). done m) (sym s.of))
