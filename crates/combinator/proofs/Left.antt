-- Hops with another last way out, one by one.
use Rattle.std.proofs.Common.{◌≡◌, ℕ, zero, suc, ◌+◌, ◌-◌, ◌<◌, ◌≤◌, List, Some, [], ◌∷◌, ◌++◌, length, take, drop, get_or, refl, sym, ap, subst, ◌∙◌, arith, add-one, length-take, length-append}
use Rattle.std.specs.Prelude.{slice_get}
use Rattle.std.proofs.lemmas.Option.{same_Some, slice_get_read}
use Rattle.policy_expr.specs.declared.hop.WalkHop.{WalkHop}
use Rattle.path_verifier.specs.Piece.{PieceValue}
use Rattle.path_verifier.specs.Walk.{hops_of, left_by}
use Rattle.path_verifier.specs.Header.{len_of}
use Rattle.path_verifier.proofs.Hops.{length_left_by, length_hops_of}
use Rattle.combinator.specs.inner.Alike.{GoesOn}
use Rattle.combinator.proofs.Collected.{take_past}

left_there : (way : ℕ) (hops : List WalkHop) (k : ℕ) (hop : WalkHop) → slice_get hops k ≡ Some hop
    → (left : WalkHop) × (slice_get (left_by way hops) k ≡ Some left) × (left.ia ≡ hop.ia)
    × (left.ingress ≡ hop.ingress) × (suc k < length hops → left.egress ≡ hop.egress)
left_there way [] k hop is = absurd cc
left_there way (first ∷ []) zero hop is =
    let same : first ≡ hop = same_Some first hop is in
    (record first { egress = way }, refl, ap (λ (h : WalkHop). h.ia) same, ap (λ (h : WalkHop). h.ingress) same, λ less. absurd (omega (arith, less)))
left_there way (first ∷ []) (suc k) hop is = absurd cc
left_there way (first ∷ next ∷ later) zero hop is =
    let same : first ≡ hop = same_Some first hop is in
    (first, refl, ap (λ (h : WalkHop). h.ia) same, ap (λ (h : WalkHop). h.ingress) same, λ _. ap (λ (h : WalkHop). h.egress) same)
left_there way (first ∷ next ∷ later) (suc k) hop is =
    let more = left_there way (next ∷ later) k hop is in
    (more.0, more.1, more.2, more.3, λ less. more.4 (omega (arith, less)))

-- such hops agree in all but the last way out
agree : (hops others : List WalkHop) (k : ℕ) (hop other : WalkHop) → left_by 0 hops ≡ left_by 0 others
    → slice_get hops k ≡ Some hop → slice_get others k ≡ Some other
    → (hop.ia ≡ other.ia) × (hop.ingress ≡ other.ingress) × (suc k < length others → hop.egress ≡ other.egress)
agree hops others k hop other same is also =
    let one = left_there 0 hops k hop is in
    let two = left_there 0 others k other also in
    let both : one.0 ≡ two.0 = same_Some one.0 two.0 (sym one.1 ∙ ap (λ (hs : List WalkHop). slice_get hs k) same ∙ two.1) in
    let many : length hops ≡ length others =
    sym (length_left_by 0 hops) ∙ ap (λ (hs : List WalkHop). length hs) same ∙ length_left_by 0 others in (
      sym one.2 ∙ ap (λ (h : WalkHop). h.ia) both ∙ two.2,
      sym one.3 ∙ ap (λ (h : WalkHop). h.ingress) both ∙ two.3,
      λ less. sym (one.4 (omega (arith, less, many))) ∙ ap (λ (h : WalkHop). h.egress) both ∙ two.4 less,
    )

taken_there : (hops : List WalkHop) (n k : ℕ) (hop : WalkHop) → k < n → slice_get hops k ≡ Some hop
    → slice_get (take n hops) k ≡ Some hop
taken_there [] n k hop less is = absurd cc
taken_there (first ∷ hops) zero k hop less is = absurd (omega (arith, less))
taken_there (first ∷ hops) (suc n) zero hop less is = is
taken_there (first ∷ hops) (suc n) (suc k) hop less is = taken_there hops n k hop (omega (arith, less)) is

-- the rest of a walk is not the later hops of a piece: it is shorter, or a hop differs
pub too_short : (rest : List WalkHop) (piece : PieceValue) → length rest < len_of piece - 1
    → (hop : WalkHop) (later : List WalkHop) → hops_of piece ≡ hop ∷ later
    → ¬ (left_by 0 (take (length later) rest) ≡ left_by 0 later)
too_short rest piece less hop later are same =
    let long : length (hops_of piece) ≡ len_of piece = length_hops_of piece in
    let also : length (hops_of piece) ≡ suc (length later) = ap (λ (hs : List WalkHop). length hs) are in
    let many : length (take (length later) rest) ≡ length later =
    sym (length_left_by 0 (take (length later) rest)) ∙ ap (λ (hs : List WalkHop). length hs) same ∙ length_left_by 0 later in
    let front : length (take (length later) rest) ≤ length rest = rw length-take (omega arith) in
    omega (arith, less, long, also, many, front)

pub here_agree : (rest : List WalkHop) (piece : PieceValue) (place len : ℕ) (there next : WalkHop) → 1 ≤ place
    → len ≡ len_of piece → place < len → len - 1 ≤ length rest
    → there ≡ get_or rest (place - 1) there → slice_get (hops_of piece) place ≡ Some next
    → (hop : WalkHop) (later : List WalkHop) → hops_of piece ≡ hop ∷ later
    → left_by 0 (take (length later) rest) ≡ left_by 0 later
    → (there.ia ≡ next.ia) × (there.ingress ≡ next.ingress) × (place + 1 < len → there.egress ≡ next.egress)
here_agree rest piece zero len there next some many within enough is also hop later are same = absurd (omega (arith, some))
here_agree rest piece (suc k) len there next some many within enough is also hop later are same =
    let long : length (hops_of piece) ≡ len_of piece = length_hops_of piece in
    let count : length (hops_of piece) ≡ suc (length later) = ap (λ (hs : List WalkHop). length hs) are in
    let at : suc k - 1 ≡ k = omega arith in
    let here : there ≡ get_or rest k there = subst (λ (i : ℕ). there ≡ get_or rest i there) at is in
    let one : slice_get rest k ≡ Some there =
    slice_get_read rest (length rest) k there refl (omega (arith, within, enough)) here in
    let two : slice_get later k ≡ Some next = subst (λ (hs : List WalkHop). slice_get hs (suc k) ≡ Some next) are also in
    let parts = agree (take (length later) rest) later k there next same
    (taken_there rest (length later) k there (omega (arith, long, count, many, within)) one) two in
    (parts.0, parts.1, λ less. parts.2 (omega (arith, less, long, count, many)))

behind : (past rest : List WalkHop) (here : WalkHop) → drop (suc (length past)) (past ++ here ∷ rest) ≡ rest
behind [] rest here = refl
behind (hop ∷ past) rest here = behind past rest here

rest_there : (past rest : List WalkHop) (here : WalkHop)
    → take (length (past ++ here ∷ rest) - (length past + 1)) (drop (length past + 1) (past ++ here ∷ rest)) ≡ rest
rest_there past rest here =
    let all = length-append past (here ∷ rest) in
    ap (take (length (past ++ here ∷ rest) - (length past + 1))) (rw add-one (behind past rest here))
    ∙ take_past rest (length (past ++ here ∷ rest) - (length past + 1)) (omega (arith, all))

-- a walk does not go on by hops whose later ones its rest does not begin with
pub goes_apart : (hops : List WalkHop) (first : WalkHop) (walk : List WalkHop) (place : ℕ) → slice_get hops 0 ≡ Some first
    → ((hop : WalkHop) (later : List WalkHop) → hops ≡ hop ∷ later
    → ¬ (left_by 0 (take (length later) (take (length walk - (place + 1)) (drop (place + 1) walk))) ≡ left_by 0 later))
    → (past rest : List WalkHop) (here : WalkHop) → walk ≡ past ++ here ∷ rest → length past ≡ place
    → ¬ (GoesOn hops here rest)
goes_apart [] first walk place is never past rest here are at goes = absurd cc
goes_apart (hop ∷ later) first walk place is never past rest here are at goes =
    let from : (rest' : List WalkHop) → rest' ≡ rest → left_by 0 (take (length later) rest') ≡ left_by 0 later =
    λ rest' same. subst (λ (hs : List WalkHop). left_by 0 (take (length later) hs) ≡ left_by 0 later) (sym same) goes.1 in
    let there : take (length walk - (place + 1)) (drop (place + 1) walk) ≡ rest =
    subst (λ (n : ℕ). take (length walk - (n + 1)) (drop (n + 1) walk) ≡ rest) at
    (subst (λ (hs : List WalkHop). take (length hs - (length past + 1)) (drop (length past + 1) hs) ≡ rest) (sym are) (rest_there past rest here)) in
    never hop later refl (from _ there)
