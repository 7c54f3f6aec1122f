-- A header that is read is spelled so, and what spells one is read as it.
use Rattle.std.proofs.Common.{◌≡◌, ℕ, ◌+◌, ◌*◌, ◌<◌, ◌≤◌, cond, ltb, ◌&&◌, List, [], ◌++◌, length, take, drop, Result, Ok, Err, refl, sym, ap, subst, ◌∙◌, append_assoc, arith, length-append, length-drop}
use Rattle.std.specs.Prelude.{IfOk}
use Rattle.std.specs.Int.{w32, to_be_bytes}
use Rattle.std.specs.List.{flat_map}
use Rattle.std.proofs.lemmas.Bool.{ltb-true, lt-ltb, and_parts, and_from, cond-true}
use Rattle.std.proofs.lemmas.List.{drop_at, append-nil, nil_from_length}
use Rattle.std.proofs.Math.Seq.{take-add}
use Rattle.path_header.specs.declared.fault.HeaderFault.{HeaderFault}
use Rattle.path_header.specs.declared.fault.HeaderFault.TheVariants.{BadIndex}
use Rattle.path_header.specs.declared.meta.Meta.{Meta}
use Rattle.path_header.specs.declared.fields.InfoField.{InfoField}
use Rattle.path_header.specs.declared.fields.HopField.{HopField}
use Rattle.path_header.specs.Value.{HeaderValue, IsHeader, info_count, hop_count, header_len, len_for}
use Rattle.refusal.specs.Refusal.{◌>>=◌}
use Rattle.path_header.specs.Spelling.{meta_of, meta_word, info_spelling, hop_spelling, spelling, InfoFits, HopFits, FitsBits, SpellsHeader}
use Rattle.path_header.specs.Reading.{meta_at, info_at, hop_at, fields_at, header_at, read_at}
use Rattle.refusal.proofs.Steps.{bind_ok, bind_from, ok_is}
use Rattle.path_header.proofs.Answered.{AreBytes, AreBytes-drop, passed_last}
use Rattle.path_header.proofs.ManyFields.{info_is_field, hop_is_field, fields_take, fields_again, length-fields}
use Rattle.path_header.proofs.MetaField.{MetaFits, meta_takes, meta_again}

-- ---- what is read is spelled so

abbrev pub checked_indices : Meta → List InfoField → List HopField → Result HeaderValue HeaderFault
checked_indices m infos hops =
    cond (ltb m.curr_inf (info_count m.lens) && ltb m.curr_hf (hop_count m.lens))
    (Ok (record { curr_inf = m.curr_inf; curr_hf = m.curr_hf; lens = m.lens; infos = infos; hops = hops }))
    (Err BadIndex)

abbrev pub hops_after : List ℕ → Meta → List InfoField → Result HeaderValue HeaderFault
hops_after bytes m infos = fields_at hop_at 12 (hop_count m.lens) (drop (4 + 8 * info_count m.lens) bytes) >>= λ hops. checked_indices m infos hops

abbrev pub fields_after : List ℕ → Meta → Result HeaderValue HeaderFault
fields_after bytes m = fields_at info_at 8 (info_count m.lens) (drop 4 bytes) >>= λ infos. hops_after bytes m infos

-- these bytes begin with the spelling of this header
pub record BeginsWith (bytes : List ℕ) (v : HeaderValue) : Type 0 where
  pub long : header_len v ≤ length bytes
  pub spells : SpellsHeader (take (header_len v) bytes) v

in_parts : (a b : ℕ) (bytes : List ℕ) → take (4 + a + b) bytes ≡ take 4 bytes ++ (take a (drop 4 bytes) ++ take b (drop (4 + a) bytes))
in_parts a b bytes = take-add (4 + a) b bytes ∙ ap (λ (t : List ℕ). t ++ take b (drop (4 + a) bytes)) (take-add 4 a bytes) ∙ append_assoc (take 4 bytes) (take a (drop 4 bytes)) (take b (drop (4 + a) bytes))

pub header_takes : (bytes : List ℕ) (v : HeaderValue) → AreBytes bytes → header_at bytes ≡ Ok v → BeginsWith bytes v
unfolding header_at
header_takes bytes v fits e =
    let m = bind_ok (meta_at bytes) (λ m. fields_after bytes m) v e in
    let infos = bind_ok (fields_at info_at 8 (info_count m.0.lens) (drop 4 bytes)) (λ infos. hops_after bytes m.0 infos) v m.2 in
    let hops = bind_ok (fields_at hop_at 12 (hop_count m.0.lens) (drop (4 + 8 * info_count m.0.lens) bytes)) (λ hops. checked_indices m.0 infos.0 hops) v infos.2 in
    let made : HeaderValue = record { curr_inf = m.0.curr_inf; curr_hf = m.0.curr_hf; lens = m.0.lens; infos = infos.0; hops = hops.0 } in
    let last = passed_last (ltb m.0.curr_inf (info_count m.0.lens) && ltb m.0.curr_hf (hop_count m.0.lens)) BadIndex (Ok made) v hops.2 in
    let below = and_parts (ltb m.0.curr_inf (info_count m.0.lens)) (ltb m.0.curr_hf (hop_count m.0.lens)) last.0 in
    let begins = meta_takes bytes m.0 fits m.1 in
    let info_part = fields_take info_at 8 info_spelling InfoFits info_is_field (info_count m.0.lens) (drop 4 bytes) infos.0 (AreBytes-drop 4 bytes fits) (omega (arith, begins.long, length-drop 4 bytes)) infos.1 in
    let hop_part = fields_take hop_at 12 hop_spelling HopFits hop_is_field (hop_count m.0.lens) (drop (4 + 8 * info_count m.0.lens) bytes) hops.0 (AreBytes-drop (4 + 8 * info_count m.0.lens) bytes fits) (omega (arith, begins.long, length-drop (4 + 8 * info_count m.0.lens) bytes)) hops.1 in
    let curr_inf : m.0.curr_inf < length infos.0 = omega (arith, ltb-true m.0.curr_inf (info_count m.0.lens) below.0, info_part.1) in
    let curr_hf : m.0.curr_hf < length hops.0 = omega (arith, ltb-true m.0.curr_hf (hop_count m.0.lens) below.1, hop_part.1) in
    let text : take (header_len made) bytes ≡ spelling made = in_parts (8 * info_count m.0.lens) (12 * hop_count m.0.lens) bytes ∙ rw (begins.spelled, info_part.0, hop_part.0) refl in
    let is : IsHeader made = record { lens = begins.lens; infos = info_part.1; hops = hop_part.1; curr_inf = curr_inf; curr_hf = curr_hf } in
    let all_fit : FitsBits made = record { infos = info_part.2; hops = hop_part.2 } in
    subst (λ (w : HeaderValue). BeginsWith bytes w) (ok_is made v last.1) (record { long = begins.long; spells = record { is_header = is; fits = all_fit; spelled = text } })

-- ---- what spells a header is read as it

pub length-spelling : (v : HeaderValue) → IsHeader v → FitsBits v → length (spelling v) ≡ header_len v
length-spelling v is fits =
    let meta_part = to_be_bytes w32 (meta_word (meta_of v)) in
    let info_part = flat_map info_spelling v.infos in
    let hop_part = flat_map hop_spelling v.hops in
    omega (
      arith,
      is.infos,
      is.hops,
      length-append meta_part (info_part ++ hop_part),
      length-append info_part hop_part,
      length-fields info_at 8 info_spelling InfoFits info_is_field v.infos fits.infos,
      length-fields hop_at 12 hop_spelling HopFits hop_is_field v.hops fits.hops,
    )

meta_fits : (v : HeaderValue) → IsHeader v → MetaFits (meta_of v)
meta_fits v is = record { curr_inf = omega (arith, is.curr_inf, is.infos); curr_hf = omega (arith, is.curr_hf, is.hops, is.lens.few); lens = is.lens }

-- the fields behind the meta field, read from the parts of the bytes
fields_from : (v : HeaderValue) (bytes infos_on hops_on : List ℕ) → IsHeader v
    → drop 4 bytes ≡ infos_on → drop (4 + 8 * info_count v.lens) bytes ≡ hops_on
    → fields_at info_at 8 (length v.infos) infos_on ≡ Ok v.infos → fields_at hop_at 12 (length v.hops) hops_on ≡ Ok v.hops
    → fields_after bytes (meta_of v) ≡ Ok v
fields_from v bytes infos_on hops_on is at_infos at_hops read_infos read_hops =
    let first : fields_at info_at 8 (info_count v.lens) (drop 4 bytes) ≡ Ok v.infos = rw (at_infos, ← is.infos) read_infos in
    let second : fields_at hop_at 12 (hop_count v.lens) (drop (4 + 8 * info_count v.lens) bytes) ≡ Ok v.hops = rw (at_hops, ← is.hops) read_hops in
    let third : checked_indices (meta_of v) v.infos v.hops ≡ Ok v = cond-true (ltb v.curr_inf (info_count v.lens) && ltb v.curr_hf (hop_count v.lens)) (Ok v) (Err BadIndex)
    (and_from (ltb v.curr_inf (info_count v.lens)) (ltb v.curr_hf (hop_count v.lens)) (lt-ltb v.curr_inf (info_count v.lens) (omega (arith, is.curr_inf, is.infos))) (lt-ltb v.curr_hf (hop_count v.lens) (omega (arith, is.curr_hf, is.hops)))) in
    bind_from (fields_at info_at 8 (info_count v.lens) (drop 4 bytes)) (λ infos. hops_after bytes (meta_of v) infos) v.infos (Ok v) first
    (bind_from (fields_at hop_at 12 (hop_count v.lens) (drop (4 + 8 * info_count v.lens) bytes)) (λ hops. checked_indices (meta_of v) v.infos hops) v.hops (Ok v) second third)

pub header_again : (v : HeaderValue) (rest : List ℕ) → IsHeader v → FitsBits v → header_at (spelling v ++ rest) ≡ Ok v
unfolding header_at
header_again v rest is fits =
    let meta_part = to_be_bytes w32 (meta_word (meta_of v)) in
    let info_part = flat_map info_spelling v.infos in
    let hop_part = flat_map hop_spelling v.hops in
    let bytes = spelling v ++ rest in
    let info_len = length-fields info_at 8 info_spelling InfoFits info_is_field v.infos fits.infos in
    let hop_len = length-fields hop_at 12 hop_spelling HopFits hop_is_field v.hops fits.hops in
    let by_infos : bytes ≡ meta_part ++ (info_part ++ (hop_part ++ rest)) = append_assoc meta_part (info_part ++ hop_part) rest ∙ ap (λ (t : List ℕ). meta_part ++ t) (append_assoc info_part hop_part rest) in
    let by_hops : bytes ≡ (meta_part ++ info_part) ++ (hop_part ++ rest) = by_infos ∙ sym (append_assoc meta_part info_part (hop_part ++ rest)) in
    let at_infos : drop 4 bytes ≡ info_part ++ (hop_part ++ rest) = ap (λ (t : List ℕ). drop 4 t) by_infos ∙ drop_at meta_part (info_part ++ (hop_part ++ rest)) 4 refl in
    let before_hops : length (meta_part ++ info_part) ≡ 4 + 8 * info_count v.lens = omega (arith, length-append meta_part info_part, info_len, is.infos) in
    let at_hops : drop (4 + 8 * info_count v.lens) bytes ≡ hop_part ++ rest = ap (λ (t : List ℕ). drop (4 + 8 * info_count v.lens) t) by_hops ∙ drop_at (meta_part ++ info_part) (hop_part ++ rest) (4 + 8 * info_count v.lens) before_hops in
    let long : len_for v.lens ≤ 4 + length (info_part ++ (hop_part ++ rest)) = omega (arith, length-append info_part (hop_part ++ rest), length-append hop_part rest, info_len, hop_len, is.infos, is.hops) in
    let read_meta : meta_at bytes ≡ Ok (meta_of v) = ap (λ (t : List ℕ). meta_at t) by_infos ∙ meta_again (meta_of v) (info_part ++ (hop_part ++ rest)) (meta_fits v is) long in
    bind_from (meta_at bytes) (λ m. fields_after bytes m) (meta_of v) (Ok v) read_meta
    (fields_from v bytes (info_part ++ (hop_part ++ rest)) (hop_part ++ rest) is at_infos at_hops
    (fields_again info_at 8 info_spelling InfoFits info_is_field v.infos (hop_part ++ rest) fits.infos)
    (fields_again hop_at 12 hop_spelling HopFits hop_is_field v.hops rest fits.hops))

-- ---- both, as a reader answers

abbrev answered : List ℕ → HeaderValue × ℕ → Type 0
answered bytes r = (r.1 ≤ length bytes) × SpellsHeader (take r.1 bytes) r.0

pub len_is : (bytes : List ℕ) (r : Result (HeaderValue × ℕ) HeaderFault) → r ≡ read_at bytes → IfOk r (λ r. r.1 ≡ header_len r.0)
len_is bytes (Ok r) e =
    let b = bind_ok (header_at bytes) (λ v. Ok (v, header_len v)) r (sym e) in
    let made : HeaderValue × ℕ = (b.0, header_len b.0) in
    subst (λ (x : HeaderValue × ℕ). x.1 ≡ header_len x.0) (ok_is made r b.2) refl
len_is bytes (Err f) e = tt

pub is_found : (bytes : List ℕ) (r : Result (HeaderValue × ℕ) HeaderFault) → AreBytes bytes → r ≡ read_at bytes → IfOk r (λ r. (r.1 ≤ length bytes) × SpellsHeader (take r.1 bytes) r.0)
is_found bytes (Ok r) fits e =
    let b = bind_ok (header_at bytes) (λ v. Ok (v, header_len v)) r (sym e) in
    let made : HeaderValue × ℕ = (b.0, header_len b.0) in
    let begins = header_takes bytes b.0 fits b.1 in
    subst (λ (x : HeaderValue × ℕ). answered bytes x) (ok_is made r b.2) (begins.long, begins.spells)
is_found bytes (Err f) fits e = tt

pub is_only : (bytes : List ℕ) (r : Result (HeaderValue × ℕ) HeaderFault) → r ≡ read_at bytes → (v : HeaderValue) (text rest : List ℕ) → SpellsHeader text v → bytes ≡ text ++ rest → r ≡ Ok (v, header_len v)
is_only bytes r e v text rest spells parts =
    let whole : bytes ≡ spelling v ++ rest = parts ∙ ap (λ (t : List ℕ). t ++ rest) spells.spelled in
    let read : header_at bytes ≡ Ok v = ap (λ (t : List ℕ). header_at t) whole ∙ header_again v rest spells.is_header spells.fits in
    e ∙ bind_from (header_at bytes) (λ v. Ok (v, header_len v)) v (Ok (v, header_len v)) read refl

-- two headers of which one's spelling begins the other's are one header, and nothing follows
pub spelled_once : (v w : HeaderValue) (text more : List ℕ) → SpellsHeader text v → SpellsHeader (text ++ more) w → (v ≡ w) × (more ≡ [])
spelled_once v w text more first second =
    let same_bytes : spelling v ++ more ≡ spelling w ++ [] = ap (λ (t : List ℕ). t ++ more) (sym first.spelled) ∙ second.spelled ∙ sym (append-nil (spelling w)) in
    let same : v ≡ w = ok_is v w (sym (header_again v more first.is_header first.fits) ∙ ap (λ (t : List ℕ). header_at t) same_bytes ∙ header_again w [] second.is_header second.fits) in
    let len_v = length-spelling v first.is_header first.fits in
    let len_w = length-spelling w second.is_header second.fits in
    let len_same : header_len v ≡ header_len w = ap (λ (x : HeaderValue). header_len x) same in
    let whole : length (spelling v ++ more) ≡ length (spelling w) = ap (λ (t : List ℕ). length t) (same_bytes ∙ append-nil (spelling w)) in
    (same, nil_from_length more (omega (arith, whole, length-append (spelling v) more, len_v, len_w, len_same)))

-- what spells a header is read as it, whatever follows
pub spelled_is_read : (v : HeaderValue) (text rest : List ℕ) → SpellsHeader text v → read_at (text ++ rest) ≡ Ok (v, header_len v)
spelled_is_read v text rest spells = is_only (text ++ rest) (read_at (text ++ rest)) refl v text rest spells refl

-- it has the header's length
pub spelled_is_long : (v : HeaderValue) (text : List ℕ) → SpellsHeader text v → length text ≡ header_len v
spelled_is_long v text spells = rw spells.spelled (length-spelling v spells.is_header spells.fits)

-- a header whose numbers fit is spelled by its spelling
pub spelling_spells : (v : HeaderValue) → IsHeader v → FitsBits v → SpellsHeader (spelling v) v
spelling_spells v is fits = record { is_header = is; fits = fits; spelled = refl }
