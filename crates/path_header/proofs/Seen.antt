-- What bytes show that begin with a header, field by field.
use Rattle.std.proofs.Common.{◌≡◌, ℕ, zero, suc, ◌+◌, ◌*◌, ◌<◌, ◌≤◌, true, cond, ltb, ◌||◌, ◌&&◌, List, [], ◌∷◌, length, get_or, drop, Some, Result, Ok, Err, refl, sym, ap, subst, ◌∙◌, arith}
use Rattle.std.specs.Prelude.{is_ok, slice_get}
use Rattle.std.specs.Int.Bits.{bit_and}
use Rattle.std.proofs.lemmas.List.{drop-drop}
use Rattle.path_header.specs.declared.fault.HeaderFault.{HeaderFault}
use Rattle.path_header.specs.declared.fault.HeaderFault.TheVariants as faults
use Rattle.path_header.specs.declared.meta.Meta.{Meta}
use Rattle.path_header.specs.declared.fields.InfoField.{InfoField}
use Rattle.path_header.specs.declared.fields.HopField.{HopField}
use Rattle.path_header.specs.Value.{HeaderValue, IsHeader, info_count, hop_count, len_for, header_len}
use Rattle.refusal.specs.Refusal.{◌>>=◌}
use Rattle.path_header.specs.Spelling.{meta_of}
use Rattle.path_header.specs.Reading.{word_at, reserved_bits, meta_from, checked_meta, meta_at, info_from, info_at, hop_from, hop_at, fields_at, header_at, read_at}
use Rattle.path_header.specs.Shown.{has_header, read_or_none, header_at_front, len_at}
use Rattle.refusal.proofs.Steps.{bind_ok, ok_is}
use Rattle.path_header.proofs.Answered.{AreBytes, passed, passed_last}
use Rattle.path_header.proofs.MetaField.{announced_takes}
use Rattle.path_header.proofs.WholeHeader.{BeginsWith, header_takes, checked_indices, hops_after, fields_after}

-- ---- there is a header

is_the_read : (r : Result HeaderValue HeaderFault) → is_ok r ≡ true → r ≡ Ok (read_or_none r)
is_the_read (Ok v) e = refl
is_the_read (Err f) e = absurd cc

pub read_is : (bytes : List ℕ) → has_header bytes ≡ true → header_at bytes ≡ Ok (header_at_front bytes)
read_is bytes e = is_the_read (header_at bytes) e

pub begins : (bytes : List ℕ) → AreBytes bytes → has_header bytes ≡ true → BeginsWith bytes (header_at_front bytes)
begins bytes fits e = header_takes bytes (header_at_front bytes) fits (read_is bytes e)

-- ---- its parts, as they are read

-- the parts from which this header was read
pub record ReadFrom (bytes : List ℕ) (v : HeaderValue) : Type 0 where
  pub meta : meta_from (word_at bytes) ≡ meta_of v
  pub infos : fields_at info_at 8 (info_count v.lens) (drop 4 bytes) ≡ Ok v.infos
  pub hops : fields_at hop_at 12 (hop_count v.lens) (drop (4 + 8 * info_count v.lens) bytes) ≡ Ok v.hops

meta_is : (bytes : List ℕ) (m : Meta) → meta_at bytes ≡ Ok m → meta_from (word_at bytes) ≡ m
unfolding meta_at
meta_is bytes m e =
    let n = word_at bytes in
    let p = passed (ltb (length bytes) 4) faults.Short (cond (ltb 0 (reserved_bits n)) (Err faults.Reserved) (checked_meta bytes (meta_from n))) m e in
    let q = passed (ltb 0 (reserved_bits n)) faults.Reserved (checked_meta bytes (meta_from n)) m p.1 in
    (announced_takes bytes (meta_from n) m q.1).2

parts : (bytes : List ℕ) (v : HeaderValue) → header_at bytes ≡ Ok v → ReadFrom bytes v
unfolding header_at
parts bytes v e =
    let m = bind_ok (meta_at bytes) (λ m. fields_after bytes m) v e in
    let infos = bind_ok (fields_at info_at 8 (info_count m.0.lens) (drop 4 bytes)) (λ infos. hops_after bytes m.0 infos) v m.2 in
    let hops = bind_ok (fields_at hop_at 12 (hop_count m.0.lens) (drop (4 + 8 * info_count m.0.lens) bytes)) (λ hops. checked_indices m.0 infos.0 hops) v infos.2 in
    let made : HeaderValue = record { curr_inf = m.0.curr_inf; curr_hf = m.0.curr_hf; lens = m.0.lens; infos = infos.0; hops = hops.0 } in
    let last = passed_last (ltb m.0.curr_inf (info_count m.0.lens) && ltb m.0.curr_hf (hop_count m.0.lens)) faults.BadIndex (Ok made) v hops.2 in
    subst (λ (w : HeaderValue). ReadFrom bytes w) (ok_is made v last.1) (record { meta = meta_is bytes m.0 m.1; infos = infos.1; hops = hops.1 })

-- ---- a field, by its index

field_at : {A : Type 0} (one : List ℕ → Result A HeaderFault) (width n i : ℕ) (bytes : List ℕ) (xs : List A) → i < length xs
    → fields_at one width n bytes ≡ Ok xs → (x : A) × (one (drop (width * i) bytes) ≡ Ok x) × (slice_get xs i ≡ Some x)
unfolding fields_at
field_at one width n i bytes [] lt e = absurd (omega arith)
field_at one width zero i bytes (x ∷ xs) lt e = absurd cc
field_at one width (suc n) zero bytes (x ∷ xs) lt e =
    let a = bind_ok (one bytes) (λ x. fields_at one width n (drop width bytes) >>= λ ys. Ok (x ∷ ys)) (x ∷ xs) e in
    let b = bind_ok (fields_at one width n (drop width bytes)) (λ ys. Ok (a.0 ∷ ys)) (x ∷ xs) a.2 in
    let whole : a.0 ∷ b.0 ≡ x ∷ xs = ok_is (a.0 ∷ b.0) (x ∷ xs) b.2 in
    let same : a.0 ≡ x = cc in
    let none : width * 0 ≡ 0 = omega arith in
    (x, rw (none, a.1, same) refl, refl)
field_at one width (suc n) (suc i) bytes (x ∷ xs) lt e =
    let a = bind_ok (one bytes) (λ x. fields_at one width n (drop width bytes) >>= λ ys. Ok (x ∷ ys)) (x ∷ xs) e in
    let b = bind_ok (fields_at one width n (drop width bytes)) (λ ys. Ok (a.0 ∷ ys)) (x ∷ xs) a.2 in
    let whole : a.0 ∷ b.0 ≡ x ∷ xs = ok_is (a.0 ∷ b.0) (x ∷ xs) b.2 in
    let same : b.0 ≡ xs = cc in
    let others : fields_at one width n (drop width bytes) ≡ Ok xs = rw (b.1, same) refl in
    let found = field_at one width n i (drop width bytes) xs (omega arith) others in
    let place : drop (width * suc i) bytes ≡ drop (width * i) (drop width bytes) = ap (λ k. drop k bytes) (omega arith) ∙ sym (drop-drop (width * i) width bytes) in
    (found.0, ap one place ∙ found.1, found.2)

pub info_is : (bytes : List ℕ) (x : InfoField) → info_at bytes ≡ Ok x → x ≡ info_from bytes
unfolding info_at
info_is bytes x e =
    let p = passed (ltb 0 (bit_and (get_or bytes 0 0) 2)) faults.PeerFlag (cond (ltb 1 (get_or bytes 0 0) || ltb 0 (get_or bytes 1 0)) (Err faults.Reserved) (Ok (info_from bytes))) x e in
    let q = passed (ltb 1 (get_or bytes 0 0) || ltb 0 (get_or bytes 1 0)) faults.Reserved (Ok (info_from bytes)) x p.1 in
    sym (ok_is (info_from bytes) x q.1)

pub hop_is : (bytes : List ℕ) (x : HopField) → hop_at bytes ≡ Ok x → x ≡ hop_from bytes
unfolding hop_at
hop_is bytes x e =
    let p = passed (ltb 0 (bit_and (get_or bytes 0 0) 3)) faults.AlertFlag (cond (ltb 0 (get_or bytes 0 0)) (Err faults.Reserved) (Ok (hop_from bytes))) x e in
    let q = passed (ltb 0 (get_or bytes 0 0)) faults.Reserved (Ok (hop_from bytes)) x p.1 in
    sym (ok_is (hop_from bytes) x q.1)

-- ---- what is shown

pub meta_read : (bytes : List ℕ) (word : ℕ) (m : Meta) → has_header bytes ≡ true → m ≡ meta_from word → word ≡ word_at bytes → m ≡ meta_of (header_at_front bytes)
meta_read bytes word m e is word_is = is ∙ ap meta_from word_is ∙ (parts bytes (header_at_front bytes) (read_is bytes e)).meta

pub meta_shown : (bytes : List ℕ) → has_header bytes ≡ true → meta_from (word_at bytes) ≡ meta_of (header_at_front bytes)
meta_shown bytes e = (parts bytes (header_at_front bytes) (read_is bytes e)).meta

pub info_shown : (bytes : List ℕ) (i : ℕ) → has_header bytes ≡ true → i < length (header_at_front bytes).infos
    → slice_get (header_at_front bytes).infos i ≡ Some (info_from (drop (4 + 8 * i) bytes))
info_shown bytes i e lt =
    let v = header_at_front bytes in
    let found = field_at info_at 8 (info_count v.lens) i (drop 4 bytes) v.infos lt (parts bytes v (read_is bytes e)).infos in
    let place : drop (8 * i) (drop 4 bytes) ≡ drop (4 + 8 * i) bytes = drop-drop (8 * i) 4 bytes in
    found.2 ∙ ap (λ (x : InfoField). Some x) (info_is (drop (8 * i) (drop 4 bytes)) found.0 found.1 ∙ ap (λ (t : List ℕ). info_from t) place)

pub hop_shown : (bytes : List ℕ) (i : ℕ) → has_header bytes ≡ true → i < length (header_at_front bytes).hops
    → slice_get (header_at_front bytes).hops i ≡ Some (hop_from (drop (4 + 8 * info_count (header_at_front bytes).lens + 12 * i) bytes))
hop_shown bytes i e lt =
    let v = header_at_front bytes in
    let before = 4 + 8 * info_count v.lens in
    let found = field_at hop_at 12 (hop_count v.lens) i (drop before bytes) v.hops lt (parts bytes v (read_is bytes e)).hops in
    let place : drop (12 * i) (drop before bytes) ≡ drop (before + 12 * i) bytes = drop-drop (12 * i) before bytes in
    found.2 ∙ ap (λ (x : HopField). Some x) (hop_is (drop (12 * i) (drop before bytes)) found.0 found.1 ∙ ap (λ (t : List ℕ). hop_from t) place)

-- ---- the whole header, from its parts

header_like : (m : Meta) (infos : List InfoField) (hops : List HopField) (v : HeaderValue) → m ≡ meta_of v → infos ≡ v.infos → hops ≡ v.hops
    → (let made : HeaderValue = record { curr_inf = m.curr_inf; curr_hf = m.curr_hf; lens = m.lens; infos = infos; hops = hops } in made ≡ v)
header_like m infos hops v same is_infos is_hops =
    subst (λ (n : Meta). (let made : HeaderValue = record { curr_inf = n.curr_inf; curr_hf = n.curr_hf; lens = n.lens; infos = infos; hops = hops } in made ≡ v)) (sym same) (rw (is_infos, is_hops) refl)

pub header_from : (bytes : List ℕ) (m : Meta) (infos : List InfoField) (hops : List HopField) → has_header bytes ≡ true → m ≡ meta_of (header_at_front bytes)
    → ((all : List InfoField) → fields_at info_at 8 (info_count m.lens) (drop 4 bytes) ≡ Ok all → infos ≡ all)
    → ((all : List HopField) → fields_at hop_at 12 (hop_count m.lens) (drop (4 + 8 * info_count m.lens) bytes) ≡ Ok all → hops ≡ all)
    → (let made : HeaderValue = record { curr_inf = m.curr_inf; curr_hf = m.curr_hf; lens = m.lens; infos = infos; hops = hops } in made ≡ header_at_front bytes)
header_from bytes m infos hops e same read_infos read_hops =
    let v = header_at_front bytes in
    let p = parts bytes v (read_is bytes e) in
    let is_infos = read_infos v.infos (subst (λ (n : Meta). fields_at info_at 8 (info_count n.lens) (drop 4 bytes) ≡ Ok v.infos) (sym same) p.infos) in
    let is_hops = read_hops v.hops (subst (λ (n : Meta). fields_at hop_at 12 (hop_count n.lens) (drop (4 + 8 * info_count n.lens) bytes) ≡ Ok v.hops) (sym same) p.hops) in
    header_like m infos hops v same is_infos is_hops

-- the bytes have room for the fields that this meta field announces
pub record HasRoom (bytes : List ℕ) (m : Meta) : Type 0 where
  pub few : hop_count m.lens ≤ 64
  pub long : len_for m.lens ≤ length bytes

pub room_for : (bytes : List ℕ) (m : Meta) (v : HeaderValue) → m ≡ meta_of v → IsHeader v → header_len v ≤ length bytes → HasRoom bytes m
room_for bytes m v same is long = subst (λ (n : Meta). HasRoom bytes n) (sym same) (record { few = is.lens.few; long = long })

-- ---- what a judgement says of a reading

pub read_is_judged : (bytes : List ℕ) → has_header bytes ≡ true → read_at bytes ≡ Ok (header_at_front bytes, header_len (header_at_front bytes))
read_is_judged bytes e = rw (read_is bytes e) refl

abbrev with_len : HeaderValue → Result (HeaderValue × ℕ) HeaderFault
with_len v = Ok (v, header_len v)

refused_both : (r : Result HeaderValue HeaderFault) (f : HeaderFault) → (r >>= λ v. Ok (header_len v)) ≡ Err f → (r >>= with_len) ≡ Err f
refused_both (Ok v) f e = absurd cc
refused_both (Err d) f e = let same : d ≡ f = cc in rw same refl

pub read_is_refused : (bytes : List ℕ) (f : HeaderFault) → len_at bytes ≡ Err f → read_at bytes ≡ Err f
read_is_refused bytes f e = refused_both (header_at bytes) f e
