-- A header in bytes, after an accumulator or the indices were written over.
use Rattle.std.proofs.Common.{◌≡◌, ℕ, zero, suc, ◌+◌, ◌*◌, ◌/◌, ◌%◌, ◌^◌, ◌<◌, true, List, [], ◌∷◌, ◌++◌, length, take, drop, set, Some, Ok, refl, sym, ap, subst, ◌∙◌, append_assoc, arith, length-append}
use Rattle.std.specs.Prelude.{is_ok, slice_get, if◌then◌else◌}
use Rattle.std.specs.Int.{w16, w32, to_be_bytes}
use Rattle.std.specs.List.{flat_map, AllByRecursion}
use Rattle.std.proofs.lemmas.List.{take_at, drop_at, take-append-drop, set_at, length-take, length-set}
use Rattle.std.proofs.lemmas.Option.{slice_get_within}
use Rattle.std.proofs.lemmas.List.Concat.{flat_map-cons}
use Rattle.std.proofs.lemmas.Grind.{flat_map-append}
use Rattle.path_header.specs.declared.fields.InfoField.{InfoField}
use Rattle.path_header.specs.Value.{HeaderValue, IsHeader, header_len}
use Rattle.path_header.specs.Spelling.{meta_of, meta_word, info_spelling, hop_spelling, spelling, InfoFits, FitsBits, SpellsHeader}
use Rattle.path_header.specs.Reading.{header_at}
use Rattle.path_header.specs.Shown.{has_header, read_or_none, header_at_front}
use Rattle.path_header.proofs.OneField.{length-info_spelling}
use Rattle.path_header.proofs.WholeHeader.{header_again, length-spelling}

-- these bytes begin with this header, and this follows
pub record Shows (bytes : List ℕ) (v : HeaderValue) (rest : List ℕ) : Type 0 where
  pub has : has_header bytes ≡ true
  pub value : header_at_front bytes ≡ v
  pub rest_is : drop (header_len (header_at_front bytes)) bytes ≡ rest

shows : (v : HeaderValue) (bytes rest : List ℕ) → IsHeader v → FitsBits v → bytes ≡ spelling v ++ rest → Shows bytes v rest
shows v bytes rest is fits e =
    let read : header_at bytes ≡ Ok v = ap (λ (t : List ℕ). header_at t) e ∙ header_again v rest is fits in
    let value : header_at_front bytes ≡ v = ap (λ r. read_or_none r) read in
    let behind : drop (header_len v) bytes ≡ rest = ap (λ (t : List ℕ). drop (header_len v) t) e ∙ drop_at (spelling v) rest (header_len v) (length-spelling v is fits) in
    record { has = ap (λ r. is_ok r) read; value = value; rest_is = ap (λ (w : HeaderValue). drop (header_len w) bytes) value ∙ behind }

-- bytes in front of which this header is spelled
whole : (v : HeaderValue) (bytes : List ℕ) → SpellsHeader (take (header_len v) bytes) v → bytes ≡ spelling v ++ drop (header_len v) bytes
whole v bytes s = sym (take-append-drop (header_len v) bytes) ∙ ap (λ (t : List ℕ). t ++ drop (header_len v) bytes) s.spelled

-- ---- an accumulator

-- a list at one of its elements
at_place : {A : Type 0} (xs : List A) (i : ℕ) (x : A) → slice_get xs i ≡ Some x → xs ≡ take i xs ++ x ∷ drop (suc i) xs
at_place [] i x e = absurd cc
at_place (y ∷ ys) zero x e = let same : y ≡ x = cc in ap (λ z. z ∷ ys) same
at_place (y ∷ ys) (suc i) x e = ap (λ zs. y ∷ zs) (at_place ys i x e)

all-get : {A : Type 0} (P : A → Type 0) (xs : List A) (i : ℕ) (x : A) → AllByRecursion P xs → slice_get xs i ≡ Some x → P x
all-get P [] i x all e = absurd cc
all-get P (y ∷ ys) zero x all e = let same : y ≡ x = cc in subst P same all.0
all-get P (y ∷ ys) (suc i) x all e = all-get P ys i x all.1 e

all-set : {A : Type 0} (P : A → Type 0) (xs : List A) (i : ℕ) (x : A) → AllByRecursion P xs → P x → AllByRecursion P (set xs i x)
all-set P [] i x all here = tt
all-set P (y ∷ ys) zero x all here = (here, all.1)
all-set P (y ∷ ys) (suc i) x all here = (all.0, all-set P ys i x all.1 here)

length-texts : {A : Type 0} (spell : A → List ℕ) (width : ℕ) → ((x : A) → length (spell x) ≡ width) → (xs : List A) → length (flat_map spell xs) ≡ width * length xs
length-texts spell width each [] = omega arith
length-texts spell width each (x ∷ xs) = rw (flat_map-cons spell x xs) (omega (arith, length-append (spell x) (flat_map spell xs), each x, length-texts spell width each xs))

-- the two bytes of the accumulator, and what stands before and behind them
regroup : (meta front flags id time back hops rest : List ℕ)
    → (meta ++ ((front ++ ((flags ++ (id ++ time)) ++ back)) ++ hops)) ++ rest ≡ (meta ++ (front ++ flags)) ++ (id ++ (time ++ (back ++ (hops ++ rest))))
regroup meta front flags id time back hops rest = simp append_assoc

put_between : (bytes next before id other behind : List ℕ) (n : ℕ) → length before ≡ n → length id ≡ 2
    → bytes ≡ before ++ (id ++ behind) → next ≡ take n bytes ++ (other ++ drop (n + 2) bytes)
    → next ≡ before ++ (other ++ behind)
put_between bytes next before id other behind n len two bytes_are next_is =
    let both : length (before ++ id) ≡ n + 2 = omega (arith, length-append before id) in
    let front : take n bytes ≡ before = ap (λ (t : List ℕ). take n t) bytes_are ∙ take_at before (id ++ behind) n len in
    let rest : drop (n + 2) bytes ≡ behind = ap (λ (t : List ℕ). drop (n + 2) t) (bytes_are ∙ sym (append_assoc before id behind)) ∙ drop_at (before ++ id) behind (n + 2) both in
    next_is ∙ rw (front, rest) refl

spelled_at : (infos front back : List InfoField) (x : InfoField) → infos ≡ front ++ x ∷ back
    → flat_map info_spelling infos ≡ flat_map info_spelling front ++ (info_spelling x ++ flat_map info_spelling back)
spelled_at infos front back x e =
    ap (λ (xs : List InfoField). flat_map info_spelling xs) e ∙ flat_map-append info_spelling front (x ∷ back)
    ∙ ap (λ (t : List ℕ). flat_map info_spelling front ++ t) (flat_map-cons info_spelling x back)

pub seg_id_changed : (v : HeaderValue) (bytes next : List ℕ) (i seg_id : ℕ) (x : InfoField)
    → IsHeader v → SpellsHeader (take (header_len v) bytes) v → seg_id < 2 ^ 16 → slice_get v.infos i ≡ Some x
    → next ≡ take (6 + 8 * i) bytes ++ (to_be_bytes w16 seg_id ++ drop (6 + 8 * i + 2) bytes)
    → Shows next (record v { infos = set v.infos i (record x { seg_id = seg_id }) }) (drop (header_len v) bytes)
seg_id_changed v bytes next i seg_id x is s small found next_is =
    let new : InfoField = record x { seg_id = seg_id } in
    let infos : List InfoField = set v.infos i new in
    let front = take i v.infos in
    let back = drop (suc i) v.infos in
    let meta = to_be_bytes w32 (meta_word (meta_of v)) in
    let flags : List ℕ = (if x.construction then 1 else 0) ∷ 0 ∷ [] in
    let id = to_be_bytes w16 x.seg_id in
    let other = to_be_bytes w16 seg_id in
    let time = to_be_bytes w32 x.timestamp in
    let f = flat_map info_spelling front in
    let b = flat_map info_spelling back in
    let h = flat_map hop_spelling v.hops in
    let rest = drop (header_len v) bytes in
    let within = slice_get_within v.infos i x found in
    let front_len : length front ≡ i = omega (arith, length-take i v.infos) in
    let old_at : v.infos ≡ front ++ x ∷ back = at_place v.infos i x found in
    let new_at : infos ≡ front ++ new ∷ back = ap (λ (xs : List InfoField). set xs i new) old_at ∙ set_at front x back new i front_len in
    let before_len : length (meta ++ (f ++ flags)) ≡ 6 + 8 * i = omega (arith, length-append meta (f ++ flags), length-append f flags, length-texts info_spelling 8 length-info_spelling front, front_len) in
    let bytes_are : bytes ≡ (meta ++ (f ++ flags)) ++ (id ++ (time ++ (b ++ (h ++ rest)))) =
    whole v bytes s ∙ ap (λ (t : List ℕ). (meta ++ (t ++ h)) ++ rest) (spelled_at v.infos front back x old_at) ∙ regroup meta f flags id time b h rest in
    let next_are : next ≡ (meta ++ (f ++ flags)) ++ (other ++ (time ++ (b ++ (h ++ rest)))) =
    put_between bytes next (meta ++ (f ++ flags)) id other (time ++ (b ++ (h ++ rest))) (6 + 8 * i) before_len refl bytes_are next_is in
    let w : HeaderValue = record v { infos = infos } in
    let spelled : next ≡ spelling w ++ rest =
    next_are ∙ sym (ap (λ (t : List ℕ). (meta ++ (t ++ h)) ++ rest) (spelled_at infos front back new new_at) ∙ regroup meta f flags other time b h rest) in
    let old_fits = all-get InfoFits v.infos i x s.fits.infos found in
    let new_fits : InfoFits new = record { seg_id = small; timestamp = old_fits.timestamp } in
    let len : length infos ≡ length v.infos = length-set v.infos i new in
    let is_new : IsHeader w = record { lens = is.lens; infos = len ∙ is.infos; hops = is.hops; curr_inf = omega (arith, len, is.curr_inf); curr_hf = is.curr_hf } in
    let fits_new : FitsBits w = record { infos = all-set InfoFits v.infos i new s.fits.infos new_fits; hops = s.fits.hops } in
    shows w next rest is_new fits_new spelled

-- ---- the indices

four_like : (a a' b b' c c' d d' : ℕ) → a ≡ a' → b ≡ b' → c ≡ c' → d ≡ d' → a ∷ b ∷ c ∷ d ∷ [] ≡ a' ∷ b' ∷ c' ∷ d' ∷ []
four_like a a' b b' c c' d d' ea eb ec ed = cc

-- the first byte has the indices, and the others have none of their bits
first_byte : (i h j k low : ℕ) → j < 4 → k < 64 → low < 2 ^ 18
    → (64 * j + k) ∷ (i * 2 ^ 30 + h * 2 ^ 24 + low) / 65536 % 256 ∷ (i * 2 ^ 30 + h * 2 ^ 24 + low) / 256 % 256 ∷ (i * 2 ^ 30 + h * 2 ^ 24 + low) % 256 ∷ []
    ≡ to_be_bytes w32 (j * 2 ^ 30 + k * 2 ^ 24 + low)
first_byte i h j k low lj lk ll = four_like _ _ _ _ _ _ _ _ (omega arith) (omega arith) (omega arith) (omega arith)

pub indices_changed : (v : HeaderValue) (bytes next : List ℕ) (info hop : ℕ)
    → IsHeader v → SpellsHeader (take (header_len v) bytes) v → info < length v.infos → hop < length v.hops
    → next ≡ set bytes 0 (64 * info + hop)
    → Shows next (record v { curr_inf = info; curr_hf = hop }) (drop (header_len v) bytes)
indices_changed v bytes next info hop is s li lh next_is =
    let low = v.lens.first * 2 ^ 12 + v.lens.second * 2 ^ 6 + v.lens.third in
    let n = v.curr_inf * 2 ^ 30 + v.curr_hf * 2 ^ 24 + low in
    let w : HeaderValue = record v { curr_inf = info; curr_hf = hop } in
    let fields = flat_map info_spelling v.infos ++ flat_map hop_spelling v.hops in
    let rest = drop (header_len v) bytes in
    let small : low < 2 ^ 18 = omega (arith, is.lens.first_fits, is.lens.second_fits, is.lens.third_fits) in
    let low_info : info < 4 = omega (arith, li, is.infos) in
    let low_hop : hop < 64 = omega (arith, lh, is.hops, is.lens.few) in
    let old_word : meta_word (meta_of v) ≡ n = omega arith in
    let new_word : meta_word (meta_of w) ≡ info * 2 ^ 30 + hop * 2 ^ 24 + low = omega arith in
    let set_first : next ≡ set ((to_be_bytes w32 n ++ fields) ++ rest) 0 (64 * info + hop) =
    next_is ∙ ap (λ (t : List ℕ). set t 0 (64 * info + hop)) (whole v bytes s ∙ ap (λ (k : ℕ). (to_be_bytes w32 k ++ fields) ++ rest) old_word) in
    let spelled : next ≡ spelling w ++ rest =
    set_first ∙ ap (λ (t : List ℕ). (t ++ fields) ++ rest) (first_byte v.curr_inf v.curr_hf info hop low low_info low_hop small ∙ ap (λ (k : ℕ). to_be_bytes w32 k) (sym new_word)) in
    let is_new : IsHeader w = record { lens = is.lens; infos = is.infos; hops = is.hops; curr_inf = li; curr_hf = lh } in
    shows w next rest is_new (record { infos = s.fits.infos; hops = s.fits.hops }) spelled
