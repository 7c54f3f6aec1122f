-- A meta field that is read is spelled so, and what spells one is read as it.
use Rattle.std.proofs.Common.{◌≡◌, ℕ, zero, suc, ◌+◌, ◌*◌, ◌^◌, ◌<◌, ◌≤◌, false, cond, eqb, ltb, ◌||◌, ◌&&◌, List, [], ◌∷◌, ◌++◌, length, get_or, take, Result, Ok, Err, refl, sym, ap, subst, ◌∙◌, arith, inl, inr, length-append}
use Rattle.std.specs.Int.{w32, to_be_bytes}
use Rattle.std.proofs.lemmas.Bool.{ltb-false, le-ltb, eqb-true, eqb-false, ne_eqb, or_parts, or_from, and_cases, and_left, and_right, cases_Bool, cond-false}
use Rattle.std.proofs.lemmas.Nat.{from_be_bytes-to_be_bytes_4}
use Rattle.path_header.specs.declared.fault.HeaderFault.{HeaderFault}
use Rattle.path_header.specs.declared.fault.HeaderFault.TheVariants as faults
use Rattle.path_header.specs.declared.lens.SegLens.{SegLens}
use Rattle.path_header.specs.declared.meta.Meta.{Meta}
use Rattle.path_header.specs.Value.{AreLens, hop_count, len_for}
use Rattle.path_header.specs.Building.{has_gap, is_wide, checked_lens}
use Rattle.path_header.specs.Spelling.{meta_word}
use Rattle.path_header.specs.Reading.{word_at, reserved_bits, meta_from, checked_meta, meta_at}
use Rattle.refusal.proofs.Steps.{bind_ok, bind_from, ok_is}
use Rattle.path_header.proofs.Answered.{AreBytes, passed}
use Rattle.path_header.proofs.OneField.{four}

-- ---- lengths

gap_means : (second third : ℕ) → (eqb second 0 && ltb 0 third) ≡ false → second ≡ 0 → third ≡ 0
gap_means second third e none =
    elim (and_cases (eqb second 0) (ltb 0 third) e) [
      | inl not_zero ↦ absurd (eqb-false second 0 not_zero none)
      | inr not_more ↦ omega (arith, ltb-false 0 third not_more)
    ]

gap_from : (second third : ℕ) → (second ≡ 0 → third ≡ 0) → (eqb second 0 && ltb 0 third) ≡ false
gap_from second third no_gap =
    elim (cases_Bool (eqb second 0)) [
      | inl is_zero ↦ and_right (eqb second 0) (ltb 0 third) (le-ltb 0 third (omega (arith, no_gap (eqb-true second 0 is_zero))))
      | inr not_zero ↦ and_left (eqb second 0) (ltb 0 third) not_zero
    ]

-- 0 is not above 0
some_from : (first : ℕ) → (first ≡ 0 → ⊥) → 0 < first
some_from zero h = absurd (h refl)
some_from (suc n) h = omega arith

pub lens_ok : (l l' : SegLens) → checked_lens l ≡ Ok l' → AreLens l × (l ≡ l')
lens_ok l l' e =
    let p = passed (has_gap l || is_wide l) faults.SegLens (cond (ltb 64 (hop_count l)) (Err faults.TooManyHops) (Ok l)) l' e in
    let q = passed (ltb 64 (hop_count l)) faults.TooManyHops (Ok l) l' p.1 in
    let both = or_parts (has_gap l) (is_wide l) p.0 in
    let gap = or_parts (eqb l.first 0) (eqb l.second 0 && ltb 0 l.third) both.0 in
    let wide = or_parts (ltb 63 l.first) (ltb 63 l.second || ltb 63 l.third) both.1 in
    let wide_more = or_parts (ltb 63 l.second) (ltb 63 l.third) wide.1 in (
      record {
        some = some_from l.first (eqb-false l.first 0 gap.0);
        no_gap = gap_means l.second l.third gap.1;
        first_fits = omega (arith, ltb-false 63 l.first wide.0);
        second_fits = omega (arith, ltb-false 63 l.second wide_more.0);
        third_fits = omega (arith, ltb-false 63 l.third wide_more.1);
        few = ltb-false 64 (hop_count l) q.0;
      },
      ok_is l l' q.1,
    )

pub lens_again : (l : SegLens) → AreLens l → checked_lens l ≡ Ok l
lens_again l are =
    let some = are.some in
    let first_fits = are.first_fits in
    let second_fits = are.second_fits in
    let third_fits = are.third_fits in
    let gap : has_gap l ≡ false = or_from (eqb l.first 0) (eqb l.second 0 && ltb 0 l.third) (ne_eqb l.first 0 (λ h. omega arith)) (gap_from l.second l.third are.no_gap) in
    let wide : is_wide l ≡ false = or_from (ltb 63 l.first) (ltb 63 l.second || ltb 63 l.third) (le-ltb 63 l.first (omega arith)) (or_from (ltb 63 l.second) (ltb 63 l.third) (le-ltb 63 l.second (omega arith)) (le-ltb 63 l.third (omega arith))) in
    cond-false (has_gap l || is_wide l) (Err faults.SegLens) (cond (ltb 64 (hop_count l)) (Err faults.TooManyHops) (Ok l)) (or_from (has_gap l) (is_wide l) gap wide)
    ∙ cond-false (ltb 64 (hop_count l)) (Err faults.TooManyHops) (Ok l) (le-ltb 64 (hop_count l) are.few)

-- ---- the number of the meta field

meta_word-meta_from : (n : ℕ) → reserved_bits n ≤ 0 → meta_word (meta_from n) ≡ n
meta_word-meta_from n clear = omega arith

meta_like : (i i' h h' a a' b b' c c' : ℕ) → i ≡ i' → h ≡ h' → a ≡ a' → b ≡ b' → c ≡ c'
    → (let l : SegLens = record { first = a; second = b; third = c } in let l' : SegLens = record { first = a'; second = b'; third = c' } in
    let x : Meta = record { curr_inf = i; curr_hf = h; lens = l } in let y : Meta = record { curr_inf = i'; curr_hf = h'; lens = l' } in x ≡ y)
meta_like i i' h h' a a' b b' c c' ei eh ea eb ec = cc

-- indices and lengths that have a place for their bits
pub record MetaFits (m : Meta) : Type 0 where
  pub curr_inf : m.curr_inf < 4
  pub curr_hf : m.curr_hf < 64
  pub lens : AreLens m.lens

meta_from-parts : (i h a b c : ℕ) → h < 64 → a < 64 → b < 64 → c < 64
    → (let l : SegLens = record { first = a; second = b; third = c } in let m : Meta = record { curr_inf = i; curr_hf = h; lens = l } in meta_from (meta_word m) ≡ m)
meta_from-parts i h a b c lh la lb lc = meta_like _ i _ h _ a _ b _ c (omega arith) (omega arith) (omega arith) (omega arith) (omega arith)

pub meta_from-meta_word : (m : Meta) → MetaFits m → meta_from (meta_word m) ≡ m
meta_from-meta_word m fits = meta_from-parts m.curr_inf m.curr_hf m.lens.first m.lens.second m.lens.third fits.curr_hf fits.lens.first_fits fits.lens.second_fits fits.lens.third_fits

reserved-meta_word : (i h a b c : ℕ) → h < 64 → a < 64 → b < 64 → c < 64 → reserved_bits (i * 2 ^ 30 + h * 2 ^ 24 + a * 2 ^ 12 + b * 2 ^ 6 + c) ≤ 0
reserved-meta_word i h a b c lh la lb lc = omega arith

meta_word-fits : (m : Meta) → MetaFits m → meta_word m < 2 ^ 32
meta_word-fits m fits = omega (arith, fits.curr_inf, fits.curr_hf, fits.lens.first_fits, fits.lens.second_fits, fits.lens.third_fits)

-- ---- the meta field

four_cells : (bytes : List ℕ) → 4 ≤ length bytes → take 4 bytes ≡ get_or bytes 0 0 ∷ get_or bytes 1 0 ∷ get_or bytes 2 0 ∷ get_or bytes 3 0 ∷ []
four_cells (a ∷ b ∷ c ∷ d ∷ rest) le = refl
four_cells _ le = absurd (omega arith)

-- these bytes begin with this meta field, and the header that it announces fits into them
pub record Begins (bytes : List ℕ) (m : Meta) : Type 0 where
  pub spelled : take 4 bytes ≡ to_be_bytes w32 (meta_word m)
  pub lens : AreLens m.lens
  pub long : len_for m.lens ≤ length bytes

abbrev if_long : List ℕ → Meta → SegLens → Result Meta HeaderFault
if_long bytes m lens = cond (ltb (length bytes) (len_for lens)) (Err faults.Short) (Ok m)

pub announced_takes : (bytes : List ℕ) (m m' : Meta) → checked_meta bytes m ≡ Ok m' → AreLens m.lens × (len_for m.lens ≤ length bytes) × (m ≡ m')
announced_takes bytes m m' e =
    let b = bind_ok (checked_lens m.lens) (λ lens. if_long bytes m lens) m' e in
    let ok = lens_ok m.lens b.0 b.1 in
    let p = passed (ltb (length bytes) (len_for b.0)) faults.Short (Ok m) m' b.2 in
    let long : len_for b.0 ≤ length bytes = ltb-false (length bytes) (len_for b.0) p.0 in
    (ok.0, subst (λ (l : SegLens). len_for l ≤ length bytes) (sym ok.1) long, ok_is m m' p.1)

announced_again : (bytes : List ℕ) (m : Meta) → AreLens m.lens → len_for m.lens ≤ length bytes → checked_meta bytes m ≡ Ok m
announced_again bytes m are long =
    bind_from (checked_lens m.lens) (λ lens. if_long bytes m lens) m.lens (Ok m) (lens_again m.lens are)
    (cond-false (ltb (length bytes) (len_for m.lens)) (Err faults.Short) (Ok m) (le-ltb _ _ long))

pub meta_takes : (bytes : List ℕ) (m : Meta) → AreBytes bytes → meta_at bytes ≡ Ok m → Begins bytes m
unfolding meta_at
meta_takes bytes m fits e =
    let n = word_at bytes in
    let p = passed (ltb (length bytes) 4) faults.Short (cond (ltb 0 (reserved_bits n)) (Err faults.Reserved) (checked_meta bytes (meta_from n))) m e in
    let q = passed (ltb 0 (reserved_bits n)) faults.Reserved (checked_meta bytes (meta_from n)) m p.1 in
    let r = announced_takes bytes (meta_from n) m q.1 in
    let word_again : meta_word (meta_from n) ≡ n = meta_word-meta_from n (ltb-false 0 (reserved_bits n) q.0) in
    let text : take 4 bytes ≡ to_be_bytes w32 (meta_word (meta_from n)) = four_cells bytes (ltb-false (length bytes) 4 p.0) ∙ sym (four bytes 0 1 2 3 fits) ∙ ap (λ k. to_be_bytes w32 k) (sym word_again) in
    subst (λ (x : Meta). Begins bytes x) r.2 (record { spelled = text; lens = r.0; long = r.1 })

meta_at_from : (bytes : List ℕ) (m : Meta) → 4 ≤ length bytes → reserved_bits (word_at bytes) ≤ 0 → meta_from (word_at bytes) ≡ m → AreLens m.lens → len_for m.lens ≤ length bytes → meta_at bytes ≡ Ok m
unfolding meta_at
meta_at_from bytes m long clear is are fits =
    let n = word_at bytes in
    let after_reserved : Result Meta HeaderFault = checked_meta bytes (meta_from n) in
    cond-false (ltb (length bytes) 4) (Err faults.Short) (cond (ltb 0 (reserved_bits n)) (Err faults.Reserved) after_reserved) (le-ltb _ _ long)
    ∙ cond-false (ltb 0 (reserved_bits n)) (Err faults.Reserved) after_reserved (le-ltb _ _ clear)
    ∙ ap (λ (x : Meta). checked_meta bytes x) is
    ∙ announced_again bytes m are fits

pub meta_again : (m : Meta) (rest : List ℕ) → MetaFits m → len_for m.lens ≤ 4 + length rest → meta_at (to_be_bytes w32 (meta_word m) ++ rest) ≡ Ok m
meta_again m rest fits long =
    let word : meta_word m ≡ word_at (to_be_bytes w32 (meta_word m) ++ rest) = sym (from_be_bytes-to_be_bytes_4 (meta_word m) (meta_word-fits m fits)) in
    let clear : reserved_bits (meta_word m) ≤ 0 = reserved-meta_word m.curr_inf m.curr_hf m.lens.first m.lens.second m.lens.third fits.curr_hf fits.lens.first_fits fits.lens.second_fits fits.lens.third_fits in
    let len : length (to_be_bytes w32 (meta_word m) ++ rest) ≡ 4 + length rest = length-append (to_be_bytes w32 (meta_word m)) rest in
    meta_at_from (to_be_bytes w32 (meta_word m) ++ rest) m (omega (arith, len))
    (subst (λ (n : ℕ). reserved_bits n ≤ 0) word clear)
    (subst (λ (n : ℕ). meta_from n ≡ m) word (meta_from-meta_word m fits))
    fits.lens (omega (arith, len, long))
