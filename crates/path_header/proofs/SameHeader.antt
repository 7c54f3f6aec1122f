-- The derived comparisons answer whether two values are equal.
use Rattle.std.proofs.Common.{◌≡◌, ℕ, Bool, true, false, ◌&&◌, eqb, List, refl, ap}
use Rattle.std.specs.Bool.{Decides}
use Rattle.std.specs.Cmp.Lexicographic.{pointwise}
use Rattle.std.specs.Str.{bytes_eq}
use Rattle.std.proofs.Math.Bool.{beq}
use Rattle.std.proofs.lemmas.Bool.Decides.{Decides-and, Decides-eqb, Decides-like, Decides-at}
use Rattle.std.proofs.lemmas.Slice.Eq.{slice_eq-Decides, bytes_eq-Decides}
use Rattle.path_header.specs.declared.lens.SegLens.{SegLens}
use Rattle.path_header.specs.declared.fields.InfoField.{InfoField}
use Rattle.path_header.specs.declared.fields.HopField.{HopField}
use Rattle.path_header.specs.Value.{HeaderValue}

beq-Decides : (a b : Bool) → Decides (beq a b) (a ≡ b)
beq-Decides true true = (λ e. refl, λ e. refl)
beq-Decides true false = (λ e. cc, λ e. absurd cc)
beq-Decides false true = (λ e. cc, λ e. absurd cc)
beq-Decides false false = (λ e. refl, λ e. refl)

-- ---- equal fields, equal record

lens_like : (a a' b b' c c' : ℕ) → a ≡ a' → b ≡ b' → c ≡ c' → (let l : SegLens = record { first = a; second = b; third = c } in let m : SegLens = record { first = a'; second = b'; third = c' } in l ≡ m)
lens_like a a' b b' c c' ea eb ec = cc

info_like : (c c' : Bool) (s s' t t' : ℕ) → c ≡ c' → s ≡ s' → t ≡ t' → (let x : InfoField = record { construction = c; seg_id = s; timestamp = t } in let y : InfoField = record { construction = c'; seg_id = s'; timestamp = t' } in x ≡ y)
info_like c c' s s' t t' ec es et = cc

hop_like : (e e' i i' o o' : ℕ) (m m' : List ℕ) → e ≡ e' → i ≡ i' → o ≡ o' → m ≡ m' → (let x : HopField = record { exp_time = e; cons_ingress = i; cons_egress = o; mac = m } in let y : HopField = record { exp_time = e'; cons_ingress = i'; cons_egress = o'; mac = m' } in x ≡ y)
hop_like e e' i i' o o' m m' ee ei eo em = cc

header_like : (i i' h h' : ℕ) (l l' : SegLens) (xs xs' : List InfoField) (ys ys' : List HopField) → i ≡ i' → h ≡ h' → l ≡ l' → xs ≡ xs' → ys ≡ ys'
    → (let v : HeaderValue = record { curr_inf = i; curr_hf = h; lens = l; infos = xs; hops = ys } in let w : HeaderValue = record { curr_inf = i'; curr_hf = h'; lens = l'; infos = xs'; hops = ys' } in v ≡ w)
header_like i i' h h' l l' xs xs' ys ys' ei eh el exs eys = cc

-- ---- the derived comparisons

abbrev lens_eq : SegLens → SegLens → Bool
lens_eq a b = eqb a.first b.first && (eqb a.second b.second && eqb a.third b.third)

abbrev info_eq : InfoField → InfoField → Bool
info_eq a b = beq a.construction b.construction && (eqb a.seg_id b.seg_id && eqb a.timestamp b.timestamp)

abbrev hop_eq : HopField → HopField → Bool
hop_eq a b = eqb a.exp_time b.exp_time && (eqb a.cons_ingress b.cons_ingress && (eqb a.cons_egress b.cons_egress && bytes_eq a.mac b.mac))

lens_eq-Decides : (a b : SegLens) → Decides (lens_eq a b) (a ≡ b)
lens_eq-Decides a b =
    Decides-like (lens_eq a b) (λ e. lens_like _ _ _ _ _ _ e.0 e.1.0 e.1.1) (λ e. (ap (λ (x : SegLens). x.first) e, (ap (λ (x : SegLens). x.second) e, ap (λ (x : SegLens). x.third) e)))
    (Decides-and _ _ (Decides-eqb a.first b.first) (Decides-and _ _ (Decides-eqb a.second b.second) (Decides-eqb a.third b.third)))

info_eq-Decides : (a b : InfoField) → Decides (info_eq a b) (a ≡ b)
info_eq-Decides a b =
    Decides-like (info_eq a b) (λ e. info_like _ _ _ _ _ _ e.0 e.1.0 e.1.1) (λ e. (ap (λ (x : InfoField). x.construction) e, (ap (λ (x : InfoField). x.seg_id) e, ap (λ (x : InfoField). x.timestamp) e)))
    (Decides-and _ _ (beq-Decides a.construction b.construction) (Decides-and _ _ (Decides-eqb a.seg_id b.seg_id) (Decides-eqb a.timestamp b.timestamp)))

hop_eq-Decides : (a b : HopField) → Decides (hop_eq a b) (a ≡ b)
hop_eq-Decides a b =
    Decides-like (hop_eq a b) (λ e. hop_like _ _ _ _ _ _ _ _ e.0 e.1.0 e.1.1.0 e.1.1.1)
    (λ e. (ap (λ (x : HopField). x.exp_time) e, (ap (λ (x : HopField). x.cons_ingress) e, (ap (λ (x : HopField). x.cons_egress) e, ap (λ (x : HopField). x.mac) e))))
    (Decides-and _ _ (Decides-eqb a.exp_time b.exp_time) (Decides-and _ _ (Decides-eqb a.cons_ingress b.cons_ingress) (Decides-and _ _ (Decides-eqb a.cons_egress b.cons_egress) (bytes_eq-Decides a.mac b.mac))))

pub header_eq-Decides : (a b : HeaderValue) (r : Bool)
    → r ≡ (eqb a.curr_inf b.curr_inf && (eqb a.curr_hf b.curr_hf && (lens_eq a.lens b.lens && (pointwise info_eq a.infos b.infos && pointwise hop_eq a.hops b.hops))))
    → Decides r (a ≡ b)
header_eq-Decides a b r is =
    Decides-like r (λ e. header_like _ _ _ _ _ _ _ _ _ _ e.0 e.1.0 e.1.1.0 e.1.1.1.0 e.1.1.1.1)
    (λ e. (ap (λ (x : HeaderValue). x.curr_inf) e, (ap (λ (x : HeaderValue). x.curr_hf) e, (ap (λ (x : HeaderValue). x.lens) e, (ap (λ (x : HeaderValue). x.infos) e, ap (λ (x : HeaderValue). x.hops) e)))))
    (Decides-at r _ is (Decides-and _ _ (Decides-eqb a.curr_inf b.curr_inf) (Decides-and _ _ (Decides-eqb a.curr_hf b.curr_hf) (Decides-and _ _ (lens_eq-Decides a.lens b.lens)
    (Decides-and _ _ (slice_eq-Decides info_eq-Decides a.infos b.infos (pointwise info_eq a.infos b.infos) refl) (slice_eq-Decides hop_eq-Decides a.hops b.hops (pointwise hop_eq a.hops b.hops) refl))))))
