-- Two entries are the same where their fields are.
use Rattle.std.proofs.Common.{◌≡◌, ℕ, true, ◌==◌, List, Decides, refl, ap, ◌∙◌}
use Rattle.std.specs.Str.{bytes_eq}
use Rattle.std.proofs.lemmas.Bool.{and_parts, and_from, eqb-true, eq-eqb}
use Rattle.std.proofs.lemmas.Slice.Eq.{bytes_eq-Decides}
use Rattle.path_segment.specs.declared.entry.Entry.{Entry}
use Rattle.path_segment.specs.Tests.{same_entry}

abbrev entry_of : ℕ → ℕ → ℕ → ℕ → List ℕ → Entry
entry_of ia ingress egress exp mac = record { ia = ia; cons_ingress = ingress; cons_egress = egress; exp_time = exp; mac = mac }

entry_is : (a b : Entry) → a.ia ≡ b.ia → a.cons_ingress ≡ b.cons_ingress → a.cons_egress ≡ b.cons_egress
    → a.exp_time ≡ b.exp_time → a.mac ≡ b.mac → a ≡ b
entry_is a b ia ingress egress exp mac =
    ap (λ x. entry_of x a.cons_ingress a.cons_egress a.exp_time a.mac) ia ∙ ap
    (λ x. entry_of b.ia x a.cons_egress a.exp_time a.mac) ingress
    ∙ ap (λ x. entry_of b.ia b.cons_ingress x a.exp_time a.mac) egress ∙ ap
    (λ x. entry_of b.ia b.cons_ingress b.cons_egress x a.mac) exp
    ∙ ap (entry_of b.ia b.cons_ingress b.cons_egress b.exp_time) mac

equal : (a b : Entry) → same_entry a b ≡ true → a ≡ b
equal a b e =
    let p1 = and_parts (a.ia == b.ia) _ e in
    let p2 = and_parts (a.cons_ingress == b.cons_ingress) _ p1.1 in
    let p3 = and_parts (a.cons_egress == b.cons_egress) _ p2.1 in
    let p4 = and_parts (a.exp_time == b.exp_time) (bytes_eq a.mac b.mac) p3.1 in
    entry_is a b (eqb-true _ _ p1.0) (eqb-true _ _ p2.0) (eqb-true _ _ p3.0) (eqb-true _ _ p4.0)
    ((bytes_eq-Decides a.mac b.mac).0 p4.1)

itself : (a : Entry) → same_entry a a ≡ true
itself a =
    and_from _ _ (eq-eqb a.ia a.ia refl)
    (and_from _ _ (eq-eqb a.cons_ingress a.cons_ingress refl) (and_from _ _ (eq-eqb a.cons_egress a.cons_egress refl)
    (and_from _ _ (eq-eqb a.exp_time a.exp_time refl) ((bytes_eq-Decides a.mac a.mac).1 refl))))

pub same_entry-Decides : (a b : Entry) → Decides (same_entry a b) (a ≡ b)
same_entry-Decides a b = (equal a b, λ e. rw e (itself b))
