-- The ways into the first and out of the last of some hops.
use Rattle.std.proofs.Common.{◌≡◌, ℕ, zero, suc, ◌-◌, ◌<◌, ◌≤◌, List, [], ◌∷◌, length, get_or, take, set, refl, ap, arith}
use Rattle.policy_expr.specs.declared.hop.WalkHop.{WalkHop}
use Rattle.path_verifier.specs.Walk.{entered_by, left_by}

pub entered_front : (hops : List WalkHop) (n way : ℕ) (d : WalkHop) → 0 < n → 0 < length hops
    → take n (set hops 0 (record (get_or hops 0 d) { ingress = way })) ≡ entered_by way (take n hops)
entered_front [] n way d some there = absurd (omega arith)
entered_front (hop ∷ hops) zero way d some there = absurd (omega arith)
entered_front (hop ∷ hops) (suc n) way d some there = refl

left_at : (hops : List WalkHop) (n way : ℕ) (d : WalkHop) → n < length hops
    → take (suc n) (set hops n (record (get_or hops n d) { egress = way })) ≡ left_by way (take (suc n) hops)
left_at [] n way d there = absurd (omega arith)
left_at (hop ∷ []) zero way d there = refl
left_at (hop ∷ next ∷ hops) zero way d there = refl
left_at (hop ∷ []) (suc n) way d there = absurd (omega arith)
left_at (hop ∷ next ∷ hops) (suc n) way d there =
    ap (λ later. hop ∷ later) (left_at (next ∷ hops) n way d (omega arith))

pub left_front : (hops : List WalkHop) (n way : ℕ) (d : WalkHop) → 0 < n → n ≤ length hops
    → take n (set hops (n - 1) (record (get_or hops (n - 1) d) { egress = way })) ≡ left_by way (take n hops)
left_front hops zero way d some there = absurd (omega arith)
left_front hops (suc n) way d some there =
    let one_less : suc n - 1 ≡ n = omega arith in
    rw one_less (left_at hops n way d (omega arith))
