-- An info or hop field that is read is spelled so, and what spells one is read as it.
use Rattle.std.proofs.Common.{◌≡◌, ℕ, zero, suc, ◌^◌, ◌<◌, ◌≤◌, Bool, true, false, cond, eqb, ltb, ◌||◌, List, [], ◌∷◌, ◌++◌, length, get_or, take, Ok, Err, refl, ap, subst, ◌∙◌, arith}
use Rattle.std.specs.Int.{w16, w32, from_be_bytes, to_be_bytes}
use Rattle.std.specs.Int.Bits.{bit_and}
use Rattle.std.proofs.lemmas.Bool.{ltb-false, or_parts}
use Rattle.std.proofs.lemmas.Nat.{be_bytes_2, be_bytes_4, from_be_bytes-to_be_bytes_2, from_be_bytes-to_be_bytes_4}
use Rattle.path_header.specs.declared.fault.HeaderFault.TheVariants.{Reserved, PeerFlag, AlertFlag}
use Rattle.path_header.specs.declared.fields.InfoField.{InfoField}
use Rattle.path_header.specs.declared.fields.HopField.{HopField}
use Rattle.path_header.specs.Spelling.{info_spelling, hop_spelling, InfoFits, HopFits}
use Rattle.path_header.specs.Reading.{info_at, hop_at}
use Rattle.refusal.proofs.Steps.{ok_is}
use Rattle.path_header.proofs.Answered.{AreBytes, passed}

-- ---- numbers of two and four bytes

pub two : (bytes : List ℕ) (i j : ℕ) → AreBytes bytes → to_be_bytes w16 (from_be_bytes w16 (get_or bytes i 0 ∷ get_or bytes j 0 ∷ [])) ≡ get_or bytes i 0 ∷ get_or bytes j 0 ∷ []
two bytes i j fits = be_bytes_2 (get_or bytes i 0 ∷ get_or bytes j 0 ∷ []) _ refl (two_fit (get_or bytes i 0) (get_or bytes j 0) (fits i) (fits j)) refl
  where
    two_fit : (a b : ℕ) → a < 256 → b < 256 → AreBytes (a ∷ b ∷ [])
    two_fit a b la lb zero = la
    two_fit a b la lb (suc zero) = lb
    two_fit a b la lb (suc (suc k)) = omega arith

pub four : (bytes : List ℕ) (i j k l : ℕ) → AreBytes bytes → to_be_bytes w32 (from_be_bytes w32 (get_or bytes i 0 ∷ get_or bytes j 0 ∷ get_or bytes k 0 ∷ get_or bytes l 0 ∷ [])) ≡ get_or bytes i 0 ∷ get_or bytes j 0 ∷ get_or bytes k 0 ∷ get_or bytes l 0 ∷ []
four bytes i j k l fits = be_bytes_4 (get_or bytes i 0 ∷ get_or bytes j 0 ∷ get_or bytes k 0 ∷ get_or bytes l 0 ∷ []) _ refl (four_fit (get_or bytes i 0) (get_or bytes j 0) (get_or bytes k 0) (get_or bytes l 0) (fits i) (fits j) (fits k) (fits l)) refl
  where
    four_fit : (a b c d : ℕ) → a < 256 → b < 256 → c < 256 → d < 256 → AreBytes (a ∷ b ∷ c ∷ d ∷ [])
    four_fit a b c d la lb lc ld zero = la
    four_fit a b c d la lb lc ld (suc zero) = lb
    four_fit a b c d la lb lc ld (suc (suc zero)) = lc
    four_fit a b c d la lb lc ld (suc (suc (suc zero))) = ld
    four_fit a b c d la lb lc ld (suc (suc (suc (suc k)))) = omega arith

-- ---- info fields

eight : (bytes : List ℕ) → 8 ≤ length bytes → take 8 bytes ≡ get_or bytes 0 0 ∷ get_or bytes 1 0 ∷ ((get_or bytes 2 0 ∷ get_or bytes 3 0 ∷ []) ++ (get_or bytes 4 0 ∷ get_or bytes 5 0 ∷ get_or bytes 6 0 ∷ get_or bytes 7 0 ∷ []))
eight (a ∷ b ∷ c ∷ d ∷ e ∷ f ∷ g ∷ h ∷ rest) le = refl
eight _ le = absurd (omega arith)

flag_is : (b : ℕ) → b ≤ 1 → b ≡ cond (eqb b 1) 1 0
flag_is zero le = refl
flag_is (suc zero) le = refl
flag_is (suc (suc b)) le = absurd (omega arith)

cells_equal : (a a' b : ℕ) (t t' u u' : List ℕ) → a ≡ a' → b ≤ 0 → t' ≡ t → u' ≡ u → a ∷ b ∷ (t ++ u) ≡ a' ∷ 0 ∷ (t' ++ u')
cells_equal a a' b t t' u u' ea eb et eu = let eb' : b ≡ 0 = omega arith in cc

pub info_takes : (bytes : List ℕ) (x : InfoField) → AreBytes bytes → 8 ≤ length bytes → info_at bytes ≡ Ok x → (take 8 bytes ≡ info_spelling x) × InfoFits x
unfolding info_at
info_takes bytes x fits le e =
    let made : InfoField = record {
      construction = eqb (get_or bytes 0 0) 1;
      seg_id = from_be_bytes w16 (get_or bytes 2 0 ∷ get_or bytes 3 0 ∷ []);
      timestamp = from_be_bytes w32 (get_or bytes 4 0 ∷ get_or bytes 5 0 ∷ get_or bytes 6 0 ∷ get_or bytes 7 0 ∷ []);
    } in
    let p = passed (ltb 0 (bit_and (get_or bytes 0 0) 2)) PeerFlag (cond (ltb 1 (get_or bytes 0 0) || ltb 0 (get_or bytes 1 0)) (Err Reserved) (Ok made)) x e in
    let q = passed (ltb 1 (get_or bytes 0 0) || ltb 0 (get_or bytes 1 0)) Reserved (Ok made) x p.1 in
    let clear = or_parts _ _ q.0 in
    let flag : get_or bytes 0 0 ≤ 1 = ltb-false _ _ clear.0 in
    let zero_byte : get_or bytes 1 0 ≤ 0 = ltb-false _ _ clear.1 in
    let text : take 8 bytes ≡ info_spelling made = eight bytes le ∙ cells_equal _ _ _ _ _ _ _ (flag_is _ flag) zero_byte (two bytes 2 3 fits) (four bytes 4 5 6 7 fits) in
    subst (λ (y : InfoField). (take 8 bytes ≡ info_spelling y) × InfoFits y) (ok_is made x q.1) (text, record { seg_id = omega (arith, fits 2, fits 3); timestamp = omega (arith, fits 4, fits 5, fits 6, fits 7) })

info_like : (c : Bool) (s s' t t' : ℕ) → s ≡ s' → t ≡ t' → (let x : InfoField = record { construction = c; seg_id = s; timestamp = t } in let y : InfoField = record { construction = c; seg_id = s'; timestamp = t' } in x ≡ y)
info_like c s s' t t' es et = cc

info_again_parts : (c : Bool) (s t : ℕ) (rest : List ℕ) → s < 2 ^ 16 → t < 2 ^ 32
    → (let x : InfoField = record { construction = c; seg_id = s; timestamp = t } in info_at (info_spelling x ++ rest) ≡ Ok x)
unfolding info_at
info_again_parts true s t rest ls lt = ap (λ (x : InfoField). Ok x) (info_like true _ s _ t (from_be_bytes-to_be_bytes_2 s ls) (from_be_bytes-to_be_bytes_4 t lt))
info_again_parts false s t rest ls lt = ap (λ (x : InfoField). Ok x) (info_like false _ s _ t (from_be_bytes-to_be_bytes_2 s ls) (from_be_bytes-to_be_bytes_4 t lt))

pub info_again : (x : InfoField) (rest : List ℕ) → InfoFits x → info_at (info_spelling x ++ rest) ≡ Ok x
info_again x rest fits = info_again_parts x.construction x.seg_id x.timestamp rest fits.seg_id fits.timestamp

pub length-info_spelling : (x : InfoField) → length (info_spelling x) ≡ 8
length-info_spelling x = refl

-- ---- hop fields

abbrev mac_of : List ℕ → List ℕ
mac_of bytes = get_or bytes 6 0 ∷ get_or bytes 7 0 ∷ get_or bytes 8 0 ∷ get_or bytes 9 0 ∷ get_or bytes 10 0 ∷ get_or bytes 11 0 ∷ []

twelve : (bytes : List ℕ) → 12 ≤ length bytes → take 12 bytes ≡ get_or bytes 0 0 ∷ get_or bytes 1 0 ∷ ((get_or bytes 2 0 ∷ get_or bytes 3 0 ∷ []) ++ ((get_or bytes 4 0 ∷ get_or bytes 5 0 ∷ []) ++ mac_of bytes))
twelve (a ∷ b ∷ c ∷ d ∷ e ∷ f ∷ g ∷ h ∷ i ∷ j ∷ k ∷ l ∷ rest) le = refl
twelve _ le = absurd (omega arith)

mac_fits : (bytes : List ℕ) → AreBytes bytes → AreBytes (mac_of bytes)
mac_fits bytes fits zero = fits 6
mac_fits bytes fits (suc zero) = fits 7
mac_fits bytes fits (suc (suc zero)) = fits 8
mac_fits bytes fits (suc (suc (suc zero))) = fits 9
mac_fits bytes fits (suc (suc (suc (suc zero)))) = fits 10
mac_fits bytes fits (suc (suc (suc (suc (suc zero))))) = fits 11
mac_fits bytes fits (suc (suc (suc (suc (suc (suc k)))))) = omega arith

hop_cells_equal : (a b : ℕ) (t t' u u' m : List ℕ) → a ≤ 0 → t' ≡ t → u' ≡ u → a ∷ b ∷ (t ++ (u ++ m)) ≡ 0 ∷ b ∷ (t' ++ (u' ++ m))
hop_cells_equal a b t t' u u' m ea et eu = let ea' : a ≡ 0 = omega arith in cc

pub hop_takes : (bytes : List ℕ) (x : HopField) → AreBytes bytes → 12 ≤ length bytes → hop_at bytes ≡ Ok x → (take 12 bytes ≡ hop_spelling x) × HopFits x
unfolding hop_at
hop_takes bytes x fits le e =
    let made : HopField = record {
      exp_time = get_or bytes 1 0;
      cons_ingress = from_be_bytes w16 (get_or bytes 2 0 ∷ get_or bytes 3 0 ∷ []);
      cons_egress = from_be_bytes w16 (get_or bytes 4 0 ∷ get_or bytes 5 0 ∷ []);
      mac = mac_of bytes;
    } in
    let p = passed (ltb 0 (bit_and (get_or bytes 0 0) 3)) AlertFlag (cond (ltb 0 (get_or bytes 0 0)) (Err Reserved) (Ok made)) x e in
    let q = passed (ltb 0 (get_or bytes 0 0)) Reserved (Ok made) x p.1 in
    let clear : get_or bytes 0 0 ≤ 0 = ltb-false _ _ q.0 in
    let text : take 12 bytes ≡ hop_spelling made = twelve bytes le ∙ hop_cells_equal _ _ _ _ _ _ _ clear (two bytes 2 3 fits) (two bytes 4 5 fits) in
    subst (λ (y : HopField). (take 12 bytes ≡ hop_spelling y) × HopFits y) (ok_is made x q.1)
    (text, record { exp_time = fits 1; cons_ingress = omega (arith, fits 2, fits 3); cons_egress = omega (arith, fits 4, fits 5); mac_len = refl; mac = mac_fits bytes fits })

hop_like : (e i i' o o' : ℕ) (m m' : List ℕ) → i ≡ i' → o ≡ o' → m ≡ m' → (let x : HopField = record { exp_time = e; cons_ingress = i; cons_egress = o; mac = m } in let y : HopField = record { exp_time = e; cons_ingress = i'; cons_egress = o'; mac = m' } in x ≡ y)
hop_like e i i' o o' m m' ei eo em = cc

hop_again_parts : (e i o : ℕ) (m rest : List ℕ) → i < 2 ^ 16 → o < 2 ^ 16 → length m ≡ 6
    → (let x : HopField = record { exp_time = e; cons_ingress = i; cons_egress = o; mac = m } in hop_at (hop_spelling x ++ rest) ≡ Ok x)
unfolding hop_at
hop_again_parts e i o (m0 ∷ m1 ∷ m2 ∷ m3 ∷ m4 ∷ m5 ∷ []) rest li lo lm = ap (λ (x : HopField). Ok x) (hop_like e _ i _ o _ _ (from_be_bytes-to_be_bytes_2 i li) (from_be_bytes-to_be_bytes_2 o lo) refl)
hop_again_parts e i o _ rest li lo lm = absurd (omega arith)

pub hop_again : (x : HopField) (rest : List ℕ) → HopFits x → hop_at (hop_spelling x ++ rest) ≡ Ok x
hop_again x rest fits = hop_again_parts x.exp_time x.cons_ingress x.cons_egress x.mac rest fits.cons_ingress fits.cons_egress fits.mac_len

pub length-hop_spelling : (x : HopField) → HopFits x → length (hop_spelling x) ≡ 12
length-hop_spelling x fits = omega (arith, fits.mac_len)
