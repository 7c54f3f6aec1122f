-- The text of a predicate is read as it, and is one run of marks.
use Rattle.std.proofs.Common.{◌≡◌, ℕ, ◌+◌, ◌/◌, ◌%◌, ◌^◌, ◌<◌, ◌≤◌, ◌≢◌, Bool, true, false, ◌&&◌, eqb, if◌then◌else◌, List, [], ◌∷◌, ◌++◌, length, Ok, refl, ◌∙◌, ap, arith, length-append, inl, inr}
use Rattle.std.specs.Char.{digit_value}
use Rattle.std.specs.Fmt.{decimal, digits}
use Rattle.std.specs.List.{AllByRecursion}
use Rattle.std.specs.Str.Parse.{AllDigits}
use Rattle.std.proofs.lemmas.Bool.{cases_Bool, cases_lt, lt-ltb, le-ltb, eqb-true, ne_eqb, or_from, and_parts}
use Rattle.std.proofs.lemmas.Bool.Decides.{nat_tests}
use Rattle.std.proofs.lemmas.Fmt.{decimal_is_IsNumeral, digits_is_IsNumeral}
use Rattle.std.proofs.lemmas.List.{append-nil}
use Rattle.isd_as.specs.Address.{isd_of, as_number_of, address_of, dash, colon, canonical, canonical_as}
use Rattle.isd_as.specs.Reading.{isd_at, address_at}
use Rattle.isd_as.proofs.Canonical.{Spells-canonical, SpellsIsd-decimal}
use Rattle.isd_as.proofs.Spelled.{has_sign-AllDigits, address_at-Spells, isd_at-SpellsIsd}
use Rattle.separators.proofs.Cut.{has_sign, cut_behind}
use Rattle.policy_expr.specs.declared.hop.HopPred.{HopPred}
use Rattle.policy_expr.specs.declared.hop.Interfaces.{Interfaces}
use Rattle.policy_expr.specs.declared.hop.Interfaces.TheVariants.{Any, Either, Both}
use Rattle.policy_expr.specs.Predicate.{hash, comma, interfaces_at, ia_at, predicate_at}
use Rattle.policy_expr.specs.Tokens.{is_mark}
use Rattle.policy_expr.specs.Acl.{says_nothing}
use Rattle.policy_expr.specs.Printing.{interfaces_text, predicate_text, AreInterfaces, IsPredicate}

-- a mark that neither begins nor parts interfaces
abbrev pub IsPlain : ℕ → Type 0
IsPlain b = (is_mark b ≡ true) × (eqb b hash ≡ false) × (eqb b comma ≡ false)

abbrev pub IsMark : ℕ → Type 0
IsMark b = is_mark b ≡ true

digit_is_mark : (b : ℕ) → digit_value b < 16 → is_mark b ≡ true
digit_is_mark b small = elim (cases_Bool (is_mark b)) [ inl on ↦ on | inr off ↦ absurd (grind (arith, nat_tests)) ]

digit_is_plain : (b : ℕ) → digit_value b < 16 → IsPlain b
digit_is_plain b small =
    let no_hash : b ≢ hash = λ e. (let v : digit_value b ≡ 36 = ap digit_value e in omega arith) in
    let no_comma : b ≢ comma = λ e. (let v : digit_value b ≡ 36 = ap digit_value e in omega arith) in
    (digit_is_mark b small, ne_eqb b hash no_hash, ne_eqb b comma no_comma)

pub plain_digits : (radix : ℕ) (text : List ℕ) → radix ≤ 16 → AllDigits radix text → AllByRecursion IsPlain text
plain_digits radix [] small all = tt
plain_digits radix (b ∷ text) small all = (digit_is_plain b (omega (arith, all.0)), plain_digits radix text small all.1)

pub all_append : (P : ℕ → Type 0) (xs ys : List ℕ) → AllByRecursion P xs → AllByRecursion P ys → AllByRecursion P (xs ++ ys)
all_append P [] ys a b = b
all_append P (x ∷ xs) ys a b = (a.0, all_append P xs ys a.1 b)

pub marks_of_plain : (text : List ℕ) → AllByRecursion IsPlain text → AllByRecursion IsMark text
marks_of_plain [] all = tt
marks_of_plain (b ∷ text) all = (all.0.0, marks_of_plain text all.1)

pub no_hash_in : (text : List ℕ) → AllByRecursion IsPlain text → has_sign hash text ≡ false
no_hash_in [] all = refl
no_hash_in (b ∷ text) all = or_from (eqb b hash) (has_sign hash text) all.0.1 (no_hash_in text all.1)

pub no_comma_in : (text : List ℕ) → AllByRecursion IsPlain text → has_sign comma text ≡ false
no_comma_in [] all = refl
no_comma_in (b ∷ text) all = or_from (eqb b comma) (has_sign comma text) all.0.2 (no_comma_in text all.1)

plain_decimal : (n : ℕ) → n < 2 ^ 64 → AllByRecursion IsPlain (decimal n)
plain_decimal n fits = plain_digits 10 (decimal n) (omega arith) (decimal_is_IsNumeral n fits).0.1

plain_group : (n : ℕ) → n < 2 ^ 64 → AllByRecursion IsPlain (digits 16 false n)
plain_group n fits = plain_digits 16 (digits 16 false n) (omega arith) (digits_is_IsNumeral 16 false (omega arith) (omega arith) n (omega arith)).0.1

plain_groups : (high middle low : ℕ) → high < 2 ^ 64 → middle < 2 ^ 64 → low < 2 ^ 64
    → AllByRecursion IsPlain (digits 16 false high ++ (colon ∷ (digits 16 false middle ++ (colon ∷ digits 16 false low))))
plain_groups high middle low fits_high fits_middle fits_low =
    let second : AllByRecursion IsPlain (digits 16 false middle ++ (colon ∷ digits 16 false low)) =
    all_append IsPlain (digits 16 false middle) (colon ∷ digits 16 false low) (plain_group middle fits_middle) ((refl, refl, refl), plain_group low fits_low) in
    all_append IsPlain (digits 16 false high) (colon ∷ (digits 16 false middle ++ (colon ∷ digits 16 false low))) (plain_group high fits_high) ((refl, refl, refl), second)

plain_as : (n : ℕ) → n < 2 ^ 48 → AllByRecursion IsPlain (canonical_as n)
plain_as n fits = elim (cases_lt n (2 ^ 32)) [
  | inl small ↦ rw (lt-ltb n (2 ^ 32) small) (plain_decimal n (omega arith))
  | inr large ↦ rw (le-ltb n (2 ^ 32) large) (plain_groups (n / 2 ^ 32) (n / 2 ^ 16 % 2 ^ 16) (n % 2 ^ 16) (omega arith) (omega arith) (omega arith))
]

plain_canonical : (a : ℕ) → a < 2 ^ 64 → AllByRecursion IsPlain (canonical a)
plain_canonical a fits =
    all_append IsPlain (decimal (isd_of a)) (dash ∷ canonical_as (as_number_of a)) (plain_decimal (isd_of a) (omega arith)) ((refl, refl, refl), plain_as (as_number_of a) (omega arith))

-- ---- reading what was printed

isd_again : (n : ℕ) → n < 2 ^ 16 → isd_at (decimal n) ≡ Ok n
isd_again n fits = isd_at-SpellsIsd (decimal n) n (SpellsIsd-decimal n fits)

address_again : (a : ℕ) → a < 2 ^ 64 → address_at (canonical a) ≡ Ok a
address_again a fits = address_at-Spells (canonical a) a (Spells-canonical a fits)

no_dash_in_decimal : (n : ℕ) → n < 2 ^ 64 → has_sign dash (decimal n) ≡ false
no_dash_in_decimal n fits = has_sign-AllDigits 10 dash (decimal n) (omega arith) (decimal_is_IsNumeral n fits).0.1

-- interfaces behind their sign
one_again : (n : ℕ) → 0 < n → n < 2 ^ 16 → interfaces_at (decimal n) ≡ Ok (Either n)
unfolding interfaces_at
one_again n some fits =
    let other : n ≢ 0 = omega arith in
    rw (no_comma_in (decimal n) (plain_decimal n (omega arith)), isd_again n fits, ne_eqb n 0 other) refl

two_not_none : (m n : ℕ) → 0 < m + n → (eqb m 0 && eqb n 0) ≡ false
two_not_none m n some = grind (arith, nat_tests)

two_again : (m n : ℕ) → 0 < m + n → m < 2 ^ 16 → n < 2 ^ 16 → interfaces_at (decimal m ++ (comma ∷ decimal n)) ≡ Ok (Both m n)
unfolding interfaces_at
two_again m n some fits_m fits_n =
    let cut = cut_behind comma (decimal m) (decimal n) (no_comma_in (decimal m) (plain_decimal m (omega arith))) in
    rw (cut.has, cut.front, cut.back, isd_again m fits_m, isd_again n fits_n, two_not_none m n some) refl

interfaces_again : (interfaces : Interfaces) (front : List ℕ) (n : ℕ) → has_sign hash front ≡ false → address_at front ≡ Ok n
    → says_nothing interfaces ≡ false → AreInterfaces interfaces
    → predicate_at (front ++ interfaces_text interfaces) ≡ Ok (record { ia = n; interfaces = interfaces })
unfolding predicate_at
interfaces_again Any front n no_hash again says are = absurd (let f : true ≡ false = says in cc)
interfaces_again (Either m) front n no_hash again says are =
    let cut = cut_behind hash front (decimal m) no_hash in
    rw (cut.has, cut.front, cut.back, again, one_again m are.0 are.1) refl
interfaces_again (Both l m) front n no_hash again says are =
    let cut = cut_behind hash front (decimal l ++ (comma ∷ decimal m)) no_hash in
    rw (cut.has, cut.front, cut.back, again, two_again l m are.0 are.1 are.2) refl

-- an address alone
address_alone_again : (a : ℕ) → a < 2 ^ 64 → predicate_at (canonical a) ≡ Ok (record { ia = a; interfaces = Any })
unfolding predicate_at ia_at
address_alone_again a fits =
    let no_hash = no_hash_in (canonical a) (plain_canonical a fits) in
    let cut = cut_behind dash (decimal (isd_of a)) (canonical_as (as_number_of a)) (no_dash_in_decimal (isd_of a) (omega arith)) in
    rw (no_hash, cut.has, address_again a fits) refl

-- an ISD alone
isd_alone_again : (n : ℕ) → n < 2 ^ 16 → predicate_at (decimal n) ≡ Ok (record { ia = address_of n 0; interfaces = Any })
unfolding predicate_at ia_at
isd_alone_again n fits =
    let no_hash = no_hash_in (decimal n) (plain_decimal n (omega arith)) in
    rw (no_hash, no_dash_in_decimal n (omega arith), isd_again n fits) refl

again_by : (a : ℕ) (interfaces : Interfaces) (test : Bool) → a < 2 ^ 64 → AreInterfaces interfaces → (eqb (as_number_of a) 0 && says_nothing interfaces) ≡ test
    → predicate_at (if test then decimal (isd_of a) else canonical a ++ interfaces_text interfaces) ≡ Ok (record { ia = a; interfaces = interfaces })
again_by a Any true fits are is =
    let zero_as : as_number_of a ≡ 0 = eqb-true _ _ (and_parts (eqb (as_number_of a) 0) true is).0 in
    let whole_isd : address_of (isd_of a) 0 ≡ a = omega arith in
    isd_alone_again (isd_of a) (omega arith) ∙ ap (λ (x : ℕ). Ok (record { ia = x; interfaces = Any })) whole_isd
again_by a (Either n) true fits are is = absurd (let f : false ≡ true = (and_parts (eqb (as_number_of a) 0) false is).1 in cc)
again_by a (Both m n) true fits are is = absurd (let f : false ≡ true = (and_parts (eqb (as_number_of a) 0) false is).1 in cc)
again_by a Any false fits are is = ap predicate_at (append-nil (canonical a)) ∙ address_alone_again a fits
again_by a (Either n) false fits are is =
    interfaces_again (Either n) (canonical a) a (no_hash_in (canonical a) (plain_canonical a fits)) (address_again a fits) refl are
again_by a (Both m n) false fits are is =
    interfaces_again (Both m n) (canonical a) a (no_hash_in (canonical a) (plain_canonical a fits)) (address_again a fits) refl are

-- what is printed of a predicate is read as it
pub predicate_again : (pred : HopPred) → IsPredicate pred → predicate_at (predicate_text pred) ≡ Ok pred
predicate_again pred is = again_by pred.ia pred.interfaces (eqb (as_number_of pred.ia) 0 && says_nothing pred.interfaces) is.0 is.1 refl

interfaces_are_marks : (interfaces : Interfaces) → AreInterfaces interfaces → AllByRecursion IsMark (interfaces_text interfaces)
interfaces_are_marks Any are = tt
interfaces_are_marks (Either n) are = (refl, marks_of_plain (decimal n) (plain_decimal n (omega (arith, are.1))))
interfaces_are_marks (Both m n) are =
    (refl, all_append IsMark (decimal m) (comma ∷ decimal n) (marks_of_plain (decimal m) (plain_decimal m (omega (arith, are.1)))) (refl, marks_of_plain (decimal n) (plain_decimal n (omega (arith, are.2)))))

marks_by : (a : ℕ) (interfaces : Interfaces) (test : Bool) → a < 2 ^ 64 → AreInterfaces interfaces
    → AllByRecursion IsMark (if test then decimal (isd_of a) else canonical a ++ interfaces_text interfaces)
marks_by a interfaces true fits are = marks_of_plain (decimal (isd_of a)) (plain_decimal (isd_of a) (omega arith))
marks_by a interfaces false fits are =
    all_append IsMark (canonical a) (interfaces_text interfaces) (marks_of_plain (canonical a) (plain_canonical a fits)) (interfaces_are_marks interfaces are)

-- it is one run of marks
pub predicate_is_marks : (pred : HopPred) → IsPredicate pred → AllByRecursion IsMark (predicate_text pred)
predicate_is_marks pred is = marks_by pred.ia pred.interfaces (eqb (as_number_of pred.ia) 0 && says_nothing pred.interfaces) is.0 is.1

some_by : (a : ℕ) (interfaces : Interfaces) (test : Bool) → a < 2 ^ 64 → 0 < length (if test then decimal (isd_of a) else canonical a ++ interfaces_text interfaces)
some_by a interfaces true fits = (decimal_is_IsNumeral (isd_of a) (omega arith)).0.0
some_by a interfaces false fits =
    let some = (decimal_is_IsNumeral (isd_of a) (omega arith)).0.0 in
    omega (arith, some, length-append (canonical a) (interfaces_text interfaces), length-append (decimal (isd_of a)) (dash ∷ canonical_as (as_number_of a)))

-- which is not empty
pub predicate_is_some : (pred : HopPred) → IsPredicate pred → 0 < length (predicate_text pred)
predicate_is_some pred is = some_by pred.ia pred.interfaces (eqb (as_number_of pred.ia) 0 && says_nothing pred.interfaces) is.0
