-- The way back of the way back is the way.
use Rattle.std.proofs.Common.{◌≡◌, ℕ, zero, suc, ◌-◌, ◌<◌, Bool, true, false, not, List, [], ◌∷◌, ◌++◌, length, map, refl, sym, ap, ◌∙◌, arith}
use Rattle.std.specs.Prelude.{reverse}
use Rattle.std.proofs.lemmas.Bool.{lt-ltb}
use Rattle.std.proofs.lemmas.List.{reverse-append, reverse-reverse, length-reverse, length-map, map-append}
use Rattle.path_header.specs.declared.lens.SegLens.{SegLens}
use Rattle.path_header.specs.declared.fields.InfoField.{InfoField}
use Rattle.path_header.specs.declared.fields.HopField.{HopField}
use Rattle.path_header.specs.Value.{HeaderValue, IsHeader, AreLens}
use Rattle.path_header.specs.Reversal.{turned_info, reversed_lens, reversed_header}

map-reverse : {A B : Type 0} (f : A → B) (xs : List A) → map f (reverse xs) ≡ reverse (map f xs)
map-reverse f [] = refl
map-reverse {A} {B} f (x ∷ xs) =
    ap (λ (ys : List A). map f ys) (reverse-append (x ∷ []) xs) ∙ map-append f (reverse xs) (x ∷ []) ∙ ap (λ (ys : List B). ys ++ f x ∷ []) (map-reverse f xs) ∙ sym (reverse-append (f x ∷ []) (map f xs))

turned-turned : (x : InfoField) → turned_info (turned_info x) ≡ x
turned-turned x = same x.construction x.seg_id x.timestamp
  where
    same : (c : Bool) (s t : ℕ) → (let x : InfoField = record { construction = not (not c); seg_id = s; timestamp = t } in let y : InfoField = record { construction = c; seg_id = s; timestamp = t } in x ≡ y)
    same true s t = refl
    same false s t = refl

map-turned-turned : (xs : List InfoField) → map turned_info (map turned_info xs) ≡ xs
map-turned-turned [] = refl
map-turned-turned (x ∷ xs) = rw (turned-turned x, map-turned-turned xs) refl

infos_twice : (xs : List InfoField) → reverse (map turned_info (reverse (map turned_info xs))) ≡ xs
infos_twice xs = ap (λ (ys : List InfoField). reverse ys) (map-reverse turned_info (map turned_info xs)) ∙ reverse-reverse (map turned_info (map turned_info xs)) ∙ map-turned-turned xs

abbrev three : ℕ → ℕ → ℕ → SegLens
three a b c = record { first = a; second = b; third = c }

reversed_one : (a : ℕ) → 0 < a → reversed_lens (three a 0 0) ≡ three a 0 0
reversed_one a ha = rw (lt-ltb 0 a ha) refl

reversed_two : (a b : ℕ) → 0 < a → 0 < b → reversed_lens (three a b 0) ≡ three b a 0
reversed_two a b ha hb = rw (lt-ltb 0 a ha, lt-ltb 0 b hb) refl

reversed_three : (a b c : ℕ) → 0 < a → 0 < b → 0 < c → reversed_lens (three a b c) ≡ three c b a
reversed_three a b c ha hb hc = rw (lt-ltb 0 a ha, lt-ltb 0 b hb, lt-ltb 0 c hc) refl

again : (l m : SegLens) → reversed_lens l ≡ m → reversed_lens m ≡ l → reversed_lens (reversed_lens l) ≡ l
again l m e f = ap (λ (x : SegLens). reversed_lens x) e ∙ f

lens_twice_parts : (a b c : ℕ) → 0 < a → (b ≡ 0 → c ≡ 0) → reversed_lens (reversed_lens (three a b c)) ≡ three a b c
lens_twice_parts a zero zero some no_gap = again (three a 0 0) (three a 0 0) (reversed_one a some) (reversed_one a some)
lens_twice_parts a zero (suc c) some no_gap = let none : suc c ≡ 0 = no_gap refl in absurd (omega arith)
lens_twice_parts a (suc b) zero some no_gap = again (three a (suc b) 0) (three (suc b) a 0) (reversed_two a (suc b) some (omega arith)) (reversed_two (suc b) a (omega arith) some)
lens_twice_parts a (suc b) (suc c) some no_gap = again (three a (suc b) (suc c)) (three (suc c) (suc b) a) (reversed_three a (suc b) (suc c) some (omega arith) (omega arith)) (reversed_three (suc c) (suc b) a (omega arith) (omega arith) some)

lens_twice : (l : SegLens) → AreLens l → reversed_lens (reversed_lens l) ≡ l
lens_twice l are = lens_twice_parts l.first l.second l.third are.some are.no_gap

header_like : (i i' h h' : ℕ) (l l' : SegLens) (xs xs' : List InfoField) (ys ys' : List HopField) → i ≡ i' → h ≡ h' → l ≡ l' → xs ≡ xs' → ys ≡ ys'
    → (let v : HeaderValue = record { curr_inf = i; curr_hf = h; lens = l; infos = xs; hops = ys } in let w : HeaderValue = record { curr_inf = i'; curr_hf = h'; lens = l'; infos = xs'; hops = ys' } in v ≡ w)
header_like i i' h h' l l' xs xs' ys ys' ei eh el exs eys = cc

info_index_twice : (xs : List InfoField) (i : ℕ) → i < length xs → length (reverse (map turned_info xs)) - 1 - (length xs - 1 - i) ≡ i
info_index_twice xs i lt = omega (arith, length-reverse (map turned_info xs), length-map xs turned_info)

hop_index_twice : (ys : List HopField) (i : ℕ) → i < length ys → length (reverse ys) - 1 - (length ys - 1 - i) ≡ i
hop_index_twice ys i lt = omega (arith, length-reverse ys)

pub turned_twice : (v : HeaderValue) → IsHeader v → reversed_header (reversed_header v) ≡ v
turned_twice v is = header_like _ v.curr_inf _ v.curr_hf _ v.lens _ v.infos _ v.hops
    (info_index_twice v.infos v.curr_inf is.curr_inf) (hop_index_twice v.hops v.curr_hf is.curr_hf) (lens_twice v.lens is.lens) (infos_twice v.infos) (reverse-reverse v.hops)
