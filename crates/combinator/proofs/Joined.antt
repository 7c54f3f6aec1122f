-- The walk of pieces depends only on the walks of the pieces alone.
use Rattle.std.proofs.Common.{◌≡◌, ℕ, List, [], ◌∷◌, ◌++◌, length, map, refl, sym, ap, ◌∙◌, append-nil}
use Rattle.std.specs.List.{fold}
use Rattle.policy_expr.specs.declared.hop.WalkHop.{WalkHop}
use Rattle.path_verifier.specs.Piece.{PieceValue}
use Rattle.path_verifier.specs.Walk.{hops_of, left_by, entered_by, with_meeting_hop, walk_with, walk_of}
use Rattle.path_verifier.proofs.Course.{joined_none}
use Rattle.path_verifier.proofs.Hops.{length_left_by}
use Rattle.combinator.specs.inner.Alike.{AreAlike, AreAllAlike}

-- hops with the first way in and the last way out set to 0
abbrev pub closed : List WalkHop → List WalkHop
closed hops = left_by 0 (entered_by 0 hops)

pub left_left : (x y : ℕ) (hops : List WalkHop) → left_by x (left_by y hops) ≡ left_by x hops
left_left x y [] = refl
left_left x y (hop ∷ []) = refl
left_left x y (hop ∷ next ∷ []) = refl
left_left x y (hop ∷ next ∷ third ∷ later) = ap (λ hs. hop ∷ hs) (left_left x y (next ∷ third ∷ later))

entered_left : (x y : ℕ) (hops : List WalkHop) → entered_by x (left_by y hops) ≡ left_by y (entered_by x hops)
entered_left x y [] = refl
entered_left x y (hop ∷ []) = refl
entered_left x y (hop ∷ next ∷ later) = refl

entered_entered : (x y : ℕ) (hops : List WalkHop) → entered_by x (entered_by y hops) ≡ entered_by x hops
entered_entered x y [] = refl
entered_entered x y (hop ∷ later) = refl

pub left_append : (x : ℕ) (hops : List WalkHop) (next : WalkHop) (later : List WalkHop)
    → left_by x (hops ++ next ∷ later) ≡ hops ++ left_by x (next ∷ later)
left_append x [] next later = refl
left_append x (hop ∷ []) next later = refl
left_append x (hop ∷ second ∷ hops) next later = ap (λ hs. hop ∷ hs) (left_append x (second ∷ hops) next later)

pub left_append_left : (x y : ℕ) (hops : List WalkHop) (next : WalkHop) (later : List WalkHop)
    → left_by x (hops ++ left_by y (next ∷ later)) ≡ hops ++ left_by x (next ∷ later)
left_append_left x y hops next [] = left_append x hops (record next { egress = y }) []
left_append_left x y hops next (third ∷ later) =
    left_append x hops next (left_by y (third ∷ later)) ∙ ap (λ hs. hops ++ hs) (left_left x y (next ∷ third ∷ later))

pub entered_front : (x way : ℕ) (hop : WalkHop) (hops later : List WalkHop)
    → entered_by x (left_by way (hop ∷ hops) ++ later) ≡ left_by way (record hop { ingress = x } ∷ hops) ++ later
entered_front x way hop [] later = refl
entered_front x way hop (next ∷ hops) later = refl

pub meets_left : (way : ℕ) (first : WalkHop) (rest : List WalkHop) (hop : WalkHop)
    → with_meeting_hop (left_by way (first ∷ rest)) hop ≡ left_by hop.egress (first ∷ rest)
meets_left way first [] hop = refl
meets_left way first (next ∷ rest) hop = left_left hop.egress way (first ∷ next ∷ rest)

pub closed_left : (way : ℕ) (hops : List WalkHop) → closed (left_by way hops) ≡ closed hops
closed_left way hops = ap (left_by 0) (entered_left 0 way hops) ∙ left_left 0 way (entered_by 0 hops)

pub closed_closed : (hops : List WalkHop) → closed (closed hops) ≡ closed hops
closed_closed hops = closed_left 0 (entered_by 0 hops) ∙ ap (left_by 0) (entered_entered 0 0 hops)

-- joining looks at closed hops alone
pub joined_closed : (walk hops : List WalkHop) → closed (walk_with walk hops) ≡ closed (walk_with (closed walk) (closed hops))
joined_closed walk [] = sym (closed_closed walk)
joined_closed [] (hop ∷ later) =
    sym (closed_closed (hop ∷ later)) ∙ ap closed (sym (joined_none (closed (hop ∷ later))))
joined_closed (first ∷ rest) (hop ∷ []) =
    ap closed (append-nil (left_by hop.egress (first ∷ rest))) ∙ closed_left hop.egress (first ∷ rest)
    ∙ sym (closed_closed (first ∷ rest))
    ∙ sym (closed_left 0 (closed (first ∷ rest)))
    ∙ ap closed (left_left 0 0 (record first { ingress = 0 } ∷ rest))
    ∙ ap closed (sym (meets_left 0 (record first { ingress = 0 }) rest (record hop { ingress = 0; egress = 0 })))
    ∙ ap closed (sym (append-nil (with_meeting_hop (closed (first ∷ rest)) (record hop { ingress = 0; egress = 0 }))))
joined_closed (first ∷ rest) (hop ∷ next ∷ later) =
    ap (left_by 0) (entered_front 0 hop.egress first rest (next ∷ later))
    ∙ left_append 0 (left_by hop.egress (record first { ingress = 0 } ∷ rest)) next later
    ∙ sym (left_append_left 0 0 (left_by hop.egress (record first { ingress = 0 } ∷ rest)) next later)
    ∙ ap (left_by 0) (sym (entered_front 0 hop.egress (record first { ingress = 0 }) rest (left_by 0 (next ∷ later))))
    ∙ ap (λ hs. closed (hs ++ left_by 0 (next ∷ later)))
    (sym (meets_left 0 (record first { ingress = 0 }) rest (record hop { ingress = 0 })))

joined_alike : (walk other hops also : List WalkHop) → closed walk ≡ closed other → closed hops ≡ closed also
    → closed (walk_with walk hops) ≡ closed (walk_with other also)
joined_alike walk other hops also first second =
    joined_closed walk hops ∙ ap (λ hs. closed (walk_with hs (closed hops))) first
    ∙ ap (λ hs. closed (walk_with (closed other) hs)) second ∙ sym (joined_closed other also)

pub closed_of : (piece : PieceValue) → walk_of (piece ∷ []) ≡ closed (hops_of piece)
unfolding walk_of
closed_of piece = ap closed (joined_none (hops_of piece))

closed_alike : (one other : PieceValue) → AreAlike one other → closed (hops_of one) ≡ closed (hops_of other)
closed_alike one other alike = sym (closed_of one) ∙ alike.walk ∙ closed_of other

folded_alike : (walk other : List WalkHop) (pieces others : List PieceValue) → closed walk ≡ closed other
    → AreAllAlike pieces others
    → closed (fold walk_with walk (map hops_of pieces)) ≡ closed (fold walk_with other (map hops_of others))
folded_alike walk other [] [] same alike = same
folded_alike walk other [] (next ∷ others) same alike = absurd alike
folded_alike walk other (piece ∷ pieces) [] same alike = absurd alike
folded_alike walk other (piece ∷ pieces) (next ∷ others) same alike =
    folded_alike (walk_with walk (hops_of piece)) (walk_with other (hops_of next)) pieces others
    (joined_alike walk other (hops_of piece) (hops_of next) same (closed_alike piece next alike.0)) alike.1

pub walk_alike : (pieces others : List PieceValue) → AreAllAlike pieces others → walk_of pieces ≡ walk_of others
unfolding walk_of
walk_alike pieces others alike = folded_alike [] [] pieces others refl alike

length_entered : (way : ℕ) (hops : List WalkHop) → length (entered_by way hops) ≡ length hops
length_entered way [] = refl
length_entered way (hop ∷ later) = refl

pub length_closed : (hops : List WalkHop) → length (closed hops) ≡ length hops
length_closed hops = length_left_by 0 (entered_by 0 hops) ∙ length_entered 0 hops

pub length_alike_hops : (one other : PieceValue) → AreAlike one other → length (hops_of one) ≡ length (hops_of other)
length_alike_hops one other alike =
    sym (length_closed (hops_of one)) ∙ ap length (closed_alike one other alike) ∙ length_closed (hops_of other)
