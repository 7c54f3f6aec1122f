-- A text that is cut at the first of its signs, and put together again.
use Rattle.std.proofs.Common.{◌≡◌, ℕ, suc, ◌+◌, ◌<◌, Bool, true, false, not, ◌||◌, eqb, cond, List, [], ◌∷◌, ◌++◌, length, get_or, take, drop, Option, Some, None, MatchOption, Bor, refl, sym, ap, ◌∙◌, arith, inl, inr, drop-cons}
use Rattle.std.proofs.Math.Seq.{drop-append-add}
use Rattle.std.specs.List.{list_any, position_or_len, before_first, after_first}
use Rattle.std.proofs.lemmas.Bool.{cases_Bool, or_parts, eq-eqb, eqb-true, not-false}
use Rattle.std.proofs.lemmas.List.{take_at, take-append-drop}
use Rattle.std.proofs.lemmas.List.Folds.{list_any-append}
use Rattle.std.proofs.lemmas.List.Sums.{prefix_len_stops}
use Rattle.separators.specs.Signs.{cut_at}

-- the sign stands in the text
abbrev pub has_sign : ℕ → List ℕ → Bool
has_sign sign text = list_any (λ b. eqb b sign) text

-- where the sign stands in a text, its first place is within
place_by : (test : Bool) (sign : ℕ) (rest : List ℕ) → (test || has_sign sign rest) ≡ true
    → (has_sign sign rest ≡ true → position_or_len (λ b. eqb b sign) rest < length rest)
    → cond (not test) (1 + position_or_len (λ b. eqb b sign) rest) 0 < length rest + 1
place_by true sign rest has later = omega arith
place_by false sign rest has later = let within = later has in omega (arith, within)

place_within : (sign : ℕ) (text : List ℕ) → has_sign sign text ≡ true → position_or_len (λ b. eqb b sign) text < length text
place_within sign [] has = absurd (let e : false ≡ true = has in cc)
place_within sign (b ∷ rest) has =
    let within = place_by (eqb b sign) sign rest has (place_within sign rest) in omega (arith, within)

place_past : (sign : ℕ) (text : List ℕ) → has_sign sign text ≡ false → position_or_len (λ b. eqb b sign) text ≡ length text
place_past sign [] lacks = refl
place_past sign (b ∷ rest) lacks =
    let parts = or_parts (eqb b sign) (has_sign sign rest) lacks in
    rw parts.0 (ap (λ n. 1 + n) (place_past sign rest parts.1) ∙ omega arith)

-- what a text is cut into, by whether it has the sign
pub cut_is : (sign : ℕ) (text : List ℕ) (r : Option (Bor (List ℕ) × Bor (List ℕ)))
    → MatchOption r (position_or_len (λ b. eqb b sign) text ≡ length text)
    (λ x. (x.0.now ≡ before_first (λ b. eqb b sign) text) × (x.1.now ≡ after_first (λ b. eqb b sign) text) × (position_or_len (λ b. eqb b sign) text < length text))
    → MatchOption r (has_sign sign text ≡ false)
    (λ x. (has_sign sign text ≡ true) × (x.0.now ≡ before_first (λ b. eqb b sign) text) × (x.1.now ≡ after_first (λ b. eqb b sign) text))
cut_is sign text None e = elim (cases_Bool (has_sign sign text)) [
  | inl has ↦ absurd (let within = place_within sign text has in omega (arith, within, e))
  | inr lacks ↦ lacks
]
cut_is sign text (Some x) e = elim (cases_Bool (has_sign sign text)) [
  | inl has ↦ (has, e.0, e.1)
  | inr lacks ↦ absurd (let past = place_past sign text lacks in omega (arith, past, e.2))
]

-- what is cut is put together again
pub cut_parts : (sign : ℕ) (text : List ℕ) → has_sign sign text ≡ true
    → text ≡ before_first (λ b. eqb b sign) text ++ (sign ∷ after_first (λ b. eqb b sign) text)
cut_parts sign text has =
    let at = position_or_len (λ b. eqb b sign) text in
    let inside : at < length text = place_within sign text has in
    let sign-is : get_or text at 0 ≡ sign = eqb-true (get_or text at 0) sign (not-false _ (prefix_len_stops (λ b. not (eqb b sign)) text 0 inside)) in
    let next : at + 1 ≡ suc at = omega arith in
    let behind : drop at text ≡ sign ∷ drop (at + 1) text = drop-cons text at 0 inside ∙ cc in
    sym (take-append-drop at text) ∙ ap (λ (t : List ℕ). take at text ++ t) behind

-- ---- a front that lacks the sign

-- the first sign stands behind it
position_behind : (sign : ℕ) (front back : List ℕ) → has_sign sign front ≡ false → position_or_len (λ b. eqb b sign) (front ++ (sign ∷ back)) ≡ length front
position_behind sign [] back none = rw (eq-eqb sign sign refl) refl
position_behind sign (b ∷ front) back none =
    let parts = or_parts (eqb b sign) (has_sign sign front) none in
    rw parts.0 (ap (λ n. 1 + n) (position_behind sign front back parts.1) ∙ omega arith)

-- the text has the sign, and this stands before the first one and this behind it
pub record IsCut (sign : ℕ) (text before after : List ℕ) : Type 0 where
  pub has : has_sign sign text ≡ true
  pub front : before_first (λ b. eqb b sign) text ≡ before
  pub back : after_first (λ b. eqb b sign) text ≡ after

pub cut_behind : (sign : ℕ) (front back : List ℕ) → has_sign sign front ≡ false → IsCut sign (front ++ (sign ∷ back)) front back
cut_behind sign front back none =
    let at = position_behind sign front back none in
    record {
      has = rw (list_any-append (λ b. eqb b sign) front (sign ∷ back), none, eq-eqb sign sign refl) refl;
      front = rw at (take_at front (sign ∷ back) (length front) refl);
      back = rw at (drop-append-add front (sign ∷ back) 1);
    }

-- ---- the same of what a text is cut into

pub cut_at-append : (sign : ℕ) (front back : List ℕ) → has_sign sign front ≡ false → cut_at sign (front ++ (sign ∷ back)) ≡ Some (front, back)
cut_at-append sign front back none = let cut = cut_behind sign front back none in rw (cut.has, cut.front, cut.back) refl

one_some : {A : Type 0} (x y : A) → Some x ≡ Some y → x ≡ y
one_some x y e = cc

cut_by : (has : Bool) (sign : ℕ) (text front back : List ℕ) → has_sign sign text ≡ has
    → cond {A = Option (List ℕ × List ℕ)} has (Some (before_first (λ b. eqb b sign) text, after_first (λ b. eqb b sign) text)) None ≡ Some (front, back) → text ≡ front ++ (sign ∷ back)
cut_by true sign text front back has cut =
    let parts : List ℕ × List ℕ = (before_first (λ b. eqb b sign) text, after_first (λ b. eqb b sign) text) in
    let same = one_some parts (front, back) cut in
    let first = ap (λ (p : List ℕ × List ℕ). p.0) same in
    let second = ap (λ (p : List ℕ × List ℕ). p.1) same in
    cut_parts sign text has ∙ ap (λ (t : List ℕ). t ++ (sign ∷ after_first (λ b. eqb b sign) text)) first ∙ ap (λ (t : List ℕ). front ++ (sign ∷ t)) second
cut_by false sign text front back has cut = absurd cc

pub append-cut_at : (sign : ℕ) (text front back : List ℕ) → cut_at sign text ≡ Some (front, back) → text ≡ front ++ (sign ∷ back)
append-cut_at sign text front back cut = cut_by (has_sign sign text) sign text front back refl cut
