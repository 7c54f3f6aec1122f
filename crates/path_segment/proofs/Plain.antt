-- The rules as tests and as plain facts.
use Rattle.std.proofs.Common.{◌≡◌, ◌≢◌, ℕ, zero, suc, ◌+◌, ◌≤◌, Bool, true, false, ◌&&◌, ◌==◌, not, List, [], ◌∷◌, length, Some, None, refl, sym, ap, ◌∙◌, arith, inl, inr}
use Rattle.std.specs.Prelude.{◌↔◌, nat_lt, slice_get}
use Rattle.std.specs.List.{list_any, list_all}
use Rattle.std.proofs.lemmas.Bool.{cases_Bool, and_parts, and_from, or_parts, ltb-false, le-ltb, not-true, not-false, eqb-true, eqb-false}
use Rattle.std.proofs.lemmas.Option.{same_Some}
use Rattle.path_segment.specs.declared.entry.Entry.{Entry}
use Rattle.path_segment.specs.Rules.{has_way_in, has_way_out, begins_well, ends_well, names_as_twice, beacon_fault, segment_fault, AreOfBeacon, AreOfSegment}
use Rattle.path_segment.proofs.Next.{guard_none, IsFree-beacon_fault}

-- ---- tests of each entry

all_at : (p : Entry → Bool) (es : List Entry) → list_all p es ≡ true → (k : ℕ) (e : Entry)
    → slice_get es k ≡ Some e → p e ≡ true
all_at p [] all k e at = absurd cc
all_at p (x ∷ xs) all zero e at = let is : x ≡ e = same_Some x e at in rw (← is) (and_parts (p x) (list_all p xs) all).0
all_at p (x ∷ xs) all (suc k) e at = all_at p xs (and_parts (p x) (list_all p xs) all).1 k e at

all_from : (p : Entry → Bool) (es : List Entry) → ((k : ℕ) (e : Entry) → slice_get es k ≡ Some e → p e ≡ true)
    → list_all p es ≡ true
all_from p [] each = refl
all_from p (x ∷ xs) each =
    and_from (p x) (list_all p xs) (each zero x refl) (all_from p xs (λ k e at. each (suc k) e at))

none_at : (p : Entry → Bool) (es : List Entry) → list_any p es ≡ false → (k : ℕ) (e : Entry)
    → slice_get es k ≡ Some e → p e ≡ false
none_at p [] none k e at = absurd cc
none_at p (x ∷ xs) none zero e at =
    let is : x ≡ e = same_Some x e at in rw (← is) (or_parts (p x) (list_any p xs) none).0
none_at p (x ∷ xs) none (suc k) e at = none_at p xs (or_parts (p x) (list_any p xs) none).1 k e at

none_from : (p : Entry → Bool) (es : List Entry)
    → ((k : ℕ) (e : Entry) → slice_get es k ≡ Some e → p e ≡ false) → list_any p es ≡ false
none_from p [] each = refl
none_from p (x ∷ xs) each = rw (each zero x refl) (none_from p xs (λ k e at. each (suc k) e at))

-- ---- ways

numbered : (n : ℕ) → not (n == 0) ≡ true → n ≢ 0
numbered n test = eqb-false n 0 (not-true (n == 0) test)

apart_test : (m n : ℕ) → m ≢ n → (m == n) ≡ false
apart_test m n h = elim (cases_Bool (m == n)) [
  | inl same ↦ absurd (h (eqb-true m n same))
  | inr other ↦ other
]

numbered_test : (n : ℕ) → n ≢ 0 → not (n == 0) ≡ true
numbered_test n some = rw (apart_test n 0 some) refl

none_test : (n : ℕ) → n ≡ 0 → not (not (n == 0)) ≡ true
none_test n none = rw none refl

none_is : (n : ℕ) → not (not (n == 0)) ≡ true → n ≡ 0
none_is n test = eqb-true n 0 (not-false (n == 0) (not-true (not (n == 0)) test))

ways_in_of : (es : List Entry) → begins_well es ≡ true → (k : ℕ) (e : Entry) → slice_get es k ≡ Some e
    → (e.cons_ingress ≡ 0) ↔ (k ≡ 0)
ways_in_of [] well k e at = absurd cc
ways_in_of (x ∷ xs) well zero e at =
    let is : x ≡ e = same_Some x e at in
    let none : x.cons_ingress ≡ 0 =
    none_is x.cons_ingress (and_parts (not (has_way_in x)) (list_all has_way_in xs) well).0 in
    (λ _. refl, λ _. rw (← is) none)
ways_in_of (x ∷ xs) well (suc k) e at =
    let some : e.cons_ingress ≢ 0 =
    numbered e.cons_ingress (all_at has_way_in xs (and_parts (not (has_way_in x)) (list_all has_way_in xs) well).1 k e at) in
    (λ h. absurd (some h), λ h. absurd (omega arith))

begins_from : (es : List Entry)
    → ((k : ℕ) (e : Entry) → slice_get es k ≡ Some e → (e.cons_ingress ≡ 0) ↔ (k ≡ 0)) → begins_well es ≡ true
begins_from [] ways = refl
begins_from (x ∷ xs) ways =
    and_from (not (has_way_in x)) (list_all has_way_in xs) (none_test x.cons_ingress ((ways zero x refl).1 refl))
    (all_from has_way_in xs (λ k e at. numbered_test e.cons_ingress (λ h. (let later : suc k ≡ 0 = (ways (suc k) e at).0 h in omega arith))))

ways_out_of : (es : List Entry) → ends_well es ≡ true → (k : ℕ) (e : Entry) → slice_get es k ≡ Some e
    → (e.cons_egress ≡ 0) ↔ (k + 1 ≡ length es)
ways_out_of [] well k e at = absurd cc
ways_out_of (x ∷ []) well zero e at =
    let is : x ≡ e = same_Some x e at in
    let none : x.cons_egress ≡ 0 = none_is x.cons_egress well in
    (λ _. refl, λ _. rw (← is) none)
ways_out_of (x ∷ []) well (suc k) e at = absurd cc
ways_out_of (x ∷ y ∷ more) well zero e at =
    let is : x ≡ e = same_Some x e at in
    let some : x.cons_egress ≢ 0 = numbered x.cons_egress (and_parts (has_way_out x) (ends_well (y ∷ more)) well).0 in
    (λ h. absurd (some (rw is h)), λ h. absurd (omega arith))
ways_out_of (x ∷ y ∷ more) well (suc k) e at =
    let rest = ways_out_of (y ∷ more) (and_parts (has_way_out x) (ends_well (y ∷ more)) well).1 k e at in
    (λ h. (let last : k + 1 ≡ length (y ∷ more) = rest.0 h in omega arith), λ h. rest.1 (omega arith))

ends_from : (es : List Entry) → 1 ≤ length es
    → ((k : ℕ) (e : Entry) → slice_get es k ≡ Some e → (e.cons_egress ≡ 0) ↔ (k + 1 ≡ length es))
    → ends_well es ≡ true
ends_from [] some ways = refl
ends_from (x ∷ []) some ways = none_test x.cons_egress ((ways zero x refl).1 refl)
ends_from (x ∷ y ∷ more) some ways =
    and_from (has_way_out x) (ends_well (y ∷ more))
    (numbered_test x.cons_egress (λ h. (let last : 0 + 1 ≡ length (x ∷ y ∷ more) = (ways zero x refl).0 h in omega arith)))
    (ends_from (y ∷ more) (omega arith) (λ k e at. (
      λ h. (let last : suc k + 1 ≡ length (x ∷ y ∷ more) = (ways (suc k) e at).0 h in omega arith),
      λ h. (ways (suc k) e at).1 (omega arith),
    )))

-- ---- no AS twice

once_of : (es : List Entry) → names_as_twice es ≡ false → (j k : ℕ) (d e : Entry) → slice_get es j ≡ Some d
    → slice_get es k ≡ Some e → d.ia ≡ e.ia → j ≡ k
once_of [] once j k d e at_j at_k same = absurd cc
once_of (x ∷ xs) once zero zero d e at_j at_k same = refl
once_of (x ∷ xs) once zero (suc k) d e at_j at_k same =
    let is : x ≡ d = same_Some x d at_j in
    let other =
    none_at (λ o. o.ia == x.ia) xs (or_parts (list_any (λ o. o.ia == x.ia) xs) (names_as_twice xs) once).0 k e at_k in
    absurd (eqb-false e.ia x.ia other (sym same ∙ ap (λ (o : Entry). o.ia) (sym is)))
once_of (x ∷ xs) once (suc j) zero d e at_j at_k same =
    let is : x ≡ e = same_Some x e at_k in
    let other =
    none_at (λ o. o.ia == x.ia) xs (or_parts (list_any (λ o. o.ia == x.ia) xs) (names_as_twice xs) once).0 j d at_j in
    absurd (eqb-false d.ia x.ia other (same ∙ ap (λ (o : Entry). o.ia) (sym is)))
once_of (x ∷ xs) once (suc j) (suc k) d e at_j at_k same =
    ap suc (once_of xs (or_parts (list_any (λ o. o.ia == x.ia) xs) (names_as_twice xs) once).1 j k d e at_j at_k same)

once_from : (es : List Entry)
    → ((j k : ℕ) (d e : Entry) → slice_get es j ≡ Some d → slice_get es k ≡ Some e → d.ia ≡ e.ia → j ≡ k)
    → names_as_twice es ≡ false
once_from [] once = refl
once_from (x ∷ xs) once =
    let here : list_any (λ o. o.ia == x.ia) xs ≡ false =
    none_from (λ o. o.ia == x.ia) xs (λ k e at. apart_test e.ia x.ia (λ same. (let one : suc k ≡ zero = once (suc k) zero e x at refl same in omega arith))) in
    rw here (once_from xs (λ j k d e at_j at_k same. (let one : suc j ≡ suc k = once (suc j) (suc k) d e at_j at_k same in omega arith)))

-- ---- together

of_beacon : (es : List Entry) → beacon_fault es ≡ None → AreOfBeacon es
of_beacon es none =
    let free = IsFree-beacon_fault es none in
    record {
      rules = record { ways_in = ways_in_of es free.begins; once = once_of es free.once };
      longer = free.some;
      shorter = free.few;
      ways_out = λ k e at. numbered e.cons_egress (all_at has_way_out es free.on k e at);
    }

beacon_none : (es : List Entry) → AreOfBeacon es → beacon_fault es ≡ None
unfolding beacon_fault
beacon_none es of =
    let some : nat_lt (length es) 1 ≡ false = le-ltb _ _ of.longer in
    let few : nat_lt 62 (length es) ≡ false = le-ltb _ _ of.shorter in
    rw (some, few, begins_from es of.rules.ways_in, all_from has_way_out es (λ k e at. numbered_test e.cons_egress (of.ways_out k e at)), once_from es of.rules.once) refl

pub beacon_in_words : (es : List Entry) → (beacon_fault es ≡ None) ↔ AreOfBeacon es
beacon_in_words es = (of_beacon es, beacon_none es)

of_segment : (es : List Entry) → segment_fault es ≡ None → AreOfSegment es
unfolding segment_fault
of_segment es none =
    let a = guard_none (nat_lt (length es) 2) _ _ none in
    let b = guard_none (nat_lt 63 (length es)) _ _ a.1 in
    let c = guard_none (not (begins_well es && ends_well es)) _ _ b.1 in
    let d = guard_none (names_as_twice es) _ _ c.1 in
    let ends = and_parts (begins_well es) (ends_well es) (not-false _ c.0) in
    record {
      rules = record { ways_in = ways_in_of es ends.0; once = once_of es d.0 };
      longer = ltb-false _ _ a.0;
      shorter = ltb-false _ _ b.0;
      ways_out = ways_out_of es ends.1;
    }

segment_none : (es : List Entry) → AreOfSegment es → segment_fault es ≡ None
unfolding segment_fault
segment_none es of =
    let some : nat_lt (length es) 2 ≡ false = le-ltb _ _ of.longer in
    let few : nat_lt 63 (length es) ≡ false = le-ltb _ _ of.shorter in
    let one : 1 ≤ length es = (let two = of.longer in omega arith) in
    rw (some, few, begins_from es of.rules.ways_in, ends_from es one of.ways_out, once_from es of.rules.once) refl

pub segment_in_words : (es : List Entry) → (segment_fault es ≡ None) ↔ AreOfSegment es
segment_in_words es = (of_segment es, segment_none es)
