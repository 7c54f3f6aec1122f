-- Where the walk of some groups is the first part of a walk, that walk goes on by the hops of each.
use Rattle.std.proofs.Common.{◌≡◌, ℕ, zero, suc, ◌+◌, ◌-◌, ◌<◌, ◌≤◌, List, [], ◌∷◌, ◌++◌, length, take, drop, get_or, refl, sym, ap, subst, ◌∙◌, arith, length-append, length-take}
use Rattle.std.specs.List.{AllByRecursion}
use Rattle.std.proofs.lemmas.List.{map-append}
use Rattle.policy_expr.specs.declared.hop.WalkHop.{WalkHop}
use Rattle.path_verifier.specs.Piece.{PieceValue, HasRange}
use Rattle.path_verifier.specs.Walk.{entered_by, hops_of, left_by, walk_of, walk_with}
use Rattle.path_verifier.specs.Header.{len_of}
use Rattle.path_verifier.proofs.Hops.{length_hops_of, length_left_by}
use Rattle.path_verifier.proofs.TurnedCounts.{long_of}
use Rattle.combinator.specs.inner.Alike.{GoesOn}
use Rattle.combinator.specs.inner.Group.{GroupValue, IsGroup, heads_of}
use Rattle.combinator.specs.inner.Over.{IsEndOf}
use Rattle.combinator.proofs.Longer.{walk_push}

-- ---- lists of hops

-- lists that are equal are equal part by part
split_same : (xs ys us vs : List WalkHop) → length xs ≡ length ys → xs ++ us ≡ ys ++ vs → (xs ≡ ys) × (us ≡ vs)
split_same [] [] us vs long same = (refl, same)
split_same [] (y ∷ ys) us vs long same = absurd (omega (arith, long))
split_same (x ∷ xs) [] us vs long same = absurd (omega (arith, long))
split_same (x ∷ xs) (y ∷ ys) us vs long same =
    let more = split_same xs ys us vs (omega (arith, long)) (ap (drop 1) same) in
    let head : x ≡ y = ap (λ (hops : List WalkHop). get_or hops 0 x) same in
    (ap (λ (hop : WalkHop). hop ∷ xs) head ∙ ap (λ (hops : List WalkHop). y ∷ hops) more.0, more.1)

append_one : (past : List WalkHop) (here : WalkHop) (rest : List WalkHop) → (past ++ here ∷ []) ++ rest ≡ past ++ here ∷ rest
append_one [] here rest = refl
append_one (one ∷ past) here rest = ap (λ (hops : List WalkHop). one ∷ hops) (append_one past here rest)

-- the last hop is left by the way that was set
last_left : (past : List WalkHop) (here : WalkHop) (way : ℕ) (walk : List WalkHop) → past ++ here ∷ [] ≡ left_by way walk
    → here.egress ≡ way
last_left past here way [] same =
    absurd (let long = ap (λ (hops : List WalkHop). length hops) same in let both = length-append past (here ∷ []) in omega (arith, long, both))
last_left [] here way (hop ∷ []) same = ap (λ (hops : List WalkHop). (get_or hops 0 here).egress) same
last_left (one ∷ past) here way (hop ∷ []) same =
    absurd (let long = ap (λ (hops : List WalkHop). length hops) same in let both = length-append past (here ∷ []) in omega (arith, long, both))
last_left [] here way (hop ∷ next ∷ later) same =
    absurd (let long = ap (λ (hops : List WalkHop). length hops) same in let left = length_left_by way (next ∷ later) in omega (arith, long, left))
last_left (one ∷ past) here way (hop ∷ next ∷ later) same = last_left past here way (next ∷ later) (ap (drop 1) same)

taken_left : (past : List WalkHop) (here : WalkHop) (rest : List WalkHop) (n k : ℕ) → n ≡ length past + suc k → 0 < length (take k rest)
    → left_by 0 (take n (past ++ here ∷ rest)) ≡ past ++ here ∷ left_by 0 (take k rest)
taken_left [] here rest n k is some =
    ap (λ m. left_by 0 (take m (here ∷ rest))) (let same : n ≡ suc k = omega (arith, is) in same) ∙ first_left here (take k rest) some
  where
    first_left : (here : WalkHop) (rest : List WalkHop) → 0 < length rest → left_by 0 (here ∷ rest) ≡ here ∷ left_by 0 rest
    first_left here [] some = absurd (omega (arith, some))
    first_left here (next ∷ rest) some = refl
taken_left (one ∷ past) here rest n k is some =
    ap (λ m. left_by 0 (take m (one ∷ past ++ here ∷ rest))) (let same : n ≡ suc (length past + suc k) = omega (arith, is) in same)
    ∙ later_left one past here rest (length past + suc k) (omega arith)
    ∙ ap (λ (hops : List WalkHop). one ∷ hops) (taken_left past here rest (length past + suc k) k refl some)
  where
    later_left : (one : WalkHop) (past : List WalkHop) (here : WalkHop) (rest : List WalkHop) (m : ℕ) → 0 < m
        → left_by 0 (one ∷ take m (past ++ here ∷ rest)) ≡ one ∷ left_by 0 (take m (past ++ here ∷ rest))
    later_left one past here rest zero some = absurd (omega (arith, some))
    later_left one [] here rest (suc m) some = refl
    later_left one (next ∷ past) here rest (suc m) some = refl

-- ---- the hops of a piece

-- a piece has two hops at least
two_hops : (piece : PieceValue) → HasRange piece
    → (hop : WalkHop) × (next : WalkHop) × (later : List WalkHop) × (hops_of piece ≡ hop ∷ next ∷ later)
two_hops piece range = parts (hops_of piece) refl (let long = long_of piece range in let count = length_hops_of piece in omega (arith, long, count))
  where
    parts : (hops : List WalkHop) → hops_of piece ≡ hops → 2 ≤ length hops
        → (hop : WalkHop) × (next : WalkHop) × (later : List WalkHop) × (hops_of piece ≡ hop ∷ next ∷ later)
    parts [] is long = absurd (omega (arith, long))
    parts (hop ∷ []) is long = absurd (omega (arith, long))
    parts (hop ∷ next ∷ later) is long = (hop, next, later, is)

-- the walk of one piece
walk_of_one : (piece : PieceValue) (hop next : WalkHop) (later : List WalkHop) → hops_of piece ≡ hop ∷ next ∷ later
    → walk_of (piece ∷ []) ≡ record hop { ingress = 0 } ∷ left_by 0 (next ∷ later)
unfolding walk_of
walk_of_one piece hop next later is = ap (λ (hops : List WalkHop). left_by 0 (entered_by 0 (walk_with [] hops))) is

-- ---- how long walks are

one_long : (piece : PieceValue) → HasRange piece → length (walk_of (piece ∷ [])) ≡ len_of piece
one_long piece range =
    let hops = two_hops piece range in
    let walk = ap (λ (w : List WalkHop). length w) (walk_of_one piece hops.0 hops.1 hops.2 hops.3) in
    let left = length_left_by 0 (hops.1 ∷ hops.2) in
    let count = length_hops_of piece in
    let all = ap (λ (w : List WalkHop). length w) hops.3 in
    omega (arith, walk, left, count, all)

one_longer : (first : PieceValue) (front : List PieceValue) (piece : PieceValue) → HasRange first → HasRange piece
    → length (walk_of ((first ∷ front) ++ piece ∷ [])) + 1 ≡ length (walk_of (first ∷ front)) + len_of piece
one_longer first front piece range also =
    let hops = two_hops piece also in
    let walk = ap (λ (w : List WalkHop). length w) (walk_push first front piece hops.0 hops.1 hops.2 range hops.3) in
    let both = length-append (left_by hops.0.egress (walk_of (first ∷ front))) (left_by 0 (hops.1 ∷ hops.2)) in
    let one = length_left_by hops.0.egress (walk_of (first ∷ front)) in
    let left = length_left_by 0 (hops.1 ∷ hops.2) in
    let count = length_hops_of piece in
    let all = ap (λ (w : List WalkHop). length w) hops.3 in
    omega (arith, walk, both, one, left, count, all)

-- where one, two and three groups end
pub ends_one : (first : GroupValue) (m : ℕ) → IsGroup first → m ≡ len_of first.head → suc (m - 1) ≡ length (walk_of (heads_of (first ∷ [])))
ends_one first m is one =
    let long = long_of first.head is.head.range in
    let walk = one_long first.head is.head.range in
    omega (arith, one, long, walk)

pub ends_two : (first second : GroupValue) (m n : ℕ) → IsGroup first → IsGroup second → m ≡ len_of first.head → n ≡ len_of second.head
    → suc (m + n - 2) ≡ length (walk_of (heads_of (first ∷ second ∷ [])))
ends_two first second m n is also one two =
    let long = long_of first.head is.head.range in
    let short = long_of second.head also.head.range in
    let walk = one_long first.head is.head.range in
    let more = one_longer first.head [] second.head is.head.range also.head.range in
    omega (arith, one, two, long, short, walk, more)

pub ends_three : (first second third : GroupValue) (m n k : ℕ) → IsGroup first → IsGroup second → IsGroup third
    → m ≡ len_of first.head → n ≡ len_of second.head → k ≡ len_of third.head
    → suc (m + n + k - 3) ≡ length (walk_of (heads_of (first ∷ second ∷ third ∷ [])))
ends_three first second third m n k is also too one two three =
    let long = long_of first.head is.head.range in
    let short = long_of second.head also.head.range in
    let last = long_of third.head too.head.range in
    let walk = one_long first.head is.head.range in
    let more = one_longer first.head [] second.head is.head.range also.head.range in
    let again = one_longer first.head (second.head ∷ []) third.head is.head.range too.head.range in
    omega (arith, one, two, three, long, short, last, walk, more, again)

-- ---- a walk goes on

-- the walk at a place
at_place : (walk : List WalkHop) (place : ℕ) → place < length walk
    → (past : List WalkHop) × (here : WalkHop) × (rest : List WalkHop) × (walk ≡ past ++ here ∷ rest) × (length past ≡ place)
at_place [] place within = absurd (omega (arith, within))
at_place (hop ∷ walk) zero within = ([], hop, walk, refl, refl)
at_place (hop ∷ walk) (suc place) within =
    let more = at_place walk place (omega (arith, within)) in
    (hop ∷ more.0, more.1, more.2, ap (λ (hops : List WalkHop). hop ∷ hops) more.3, (let long = more.4 in omega (arith, long)))

module _ (piece : PieceValue) (range : HasRange piece) (past rest : List WalkHop) (here : WalkHop) where
  goes_first : length past ≡ 0 → (n : ℕ) → n ≡ length (walk_of (piece ∷ [])) → left_by 0 (take n (past ++ here ∷ rest)) ≡ walk_of (piece ∷ [])
      → n ≤ length (past ++ here ∷ rest) → GoesOn (hops_of piece) here rest
  goes_first empty n count same within =
      let hops = two_hops piece range in
      let walk = walk_of_one piece hops.0 hops.1 hops.2 hops.3 in
      let left = length_left_by 0 (hops.1 ∷ hops.2) in
      let long = ap (λ (w : List WalkHop). length w) walk in
      let both = length-append past (here ∷ rest) in
      let k = length (hops.1 ∷ hops.2) in
      let some : 0 < length (take k rest) = simp length-take (omega (arith, count, left, long, empty, both, within)) in
      let parts = split_same (past ++ here ∷ []) (record hops.0 { ingress = 0 } ∷ []) (left_by 0 (take k rest)) (left_by 0 (hops.1 ∷ hops.2))
      (let one = length-append past (here ∷ []) in omega (arith, one, empty))
      (append_one past here (left_by 0 (take k rest)) ∙ sym (taken_left past here rest n k (omega (arith, count, left, long, empty)) some) ∙ same ∙ walk) in
      subst (λ (hs : List WalkHop). GoesOn hs here rest) (sym hops.3)
      (last_left past here hops.0.egress (record hops.0 { ingress = 0 } ∷ []) (parts.0 ∙ refl), parts.1)

  goes_later : (first : PieceValue) (front : List PieceValue) → HasRange first → suc (length past) ≡ length (walk_of (first ∷ front))
      → (n : ℕ) → n ≡ length (walk_of ((first ∷ front) ++ piece ∷ []))
      → left_by 0 (take n (past ++ here ∷ rest)) ≡ walk_of ((first ∷ front) ++ piece ∷ [])
      → n ≤ length (past ++ here ∷ rest) → GoesOn (hops_of piece) here rest
  goes_later first front first_range end n count same within =
      let hops = two_hops piece range in
      let walk = walk_push first front piece hops.0 hops.1 hops.2 first_range hops.3 in
      let left = length_left_by 0 (hops.1 ∷ hops.2) in
      let before = length_left_by hops.0.egress (walk_of (first ∷ front)) in
      let long = ap (λ (w : List WalkHop). length w) walk in
      let parts_long = length-append (left_by hops.0.egress (walk_of (first ∷ front))) (left_by 0 (hops.1 ∷ hops.2)) in
      let both = length-append past (here ∷ rest) in
      let k = length (hops.1 ∷ hops.2) in
      let some : 0 < length (take k rest) = simp length-take (omega (arith, count, left, before, long, parts_long, both, end, within)) in
      let parts = split_same (past ++ here ∷ []) (left_by hops.0.egress (walk_of (first ∷ front))) (left_by 0 (take k rest)) (left_by 0 (hops.1 ∷ hops.2))
      (let one = length-append past (here ∷ []) in omega (arith, one, before, end))
      (append_one past here (left_by 0 (take k rest)) ∙ sym (taken_left past here rest n k (omega (arith, count, left, before, long, parts_long, end)) some) ∙ same ∙ walk) in
      subst (λ (hs : List WalkHop). GoesOn hs here rest) (sym hops.3)
      (last_left past here hops.0.egress (walk_of (first ∷ front)) parts.0, parts.1)

-- a walk is no shorter than its first part
upto : (walk target : List WalkHop) → left_by 0 (take (length target) walk) ≡ target → length target ≤ length walk
upto walk target same =
    let taken = ap (λ (w : List WalkHop). length w) same in
    let left = length_left_by 0 (take (length target) walk) in
    let count : length (take (length target) walk) ≤ length walk = simp length-take (omega arith) in
    omega (arith, taken, left, count)

-- where a walk does not go on by the hops of a group, no walk of the groups with it is its first part
pub goes_on_only : (front : List GroupValue) (group : GroupValue) (walk : List WalkHop) (place : ℕ)
    → AllByRecursion IsGroup front → IsGroup group → IsEndOf place front
    → ((past rest : List WalkHop) (here : WalkHop) → walk ≡ past ++ here ∷ rest → length past ≡ place
    → ¬ (GoesOn (hops_of group.head) here rest))
    → ¬ (left_by 0 (take (length (walk_of (heads_of (front ++ group ∷ [])))) walk) ≡ walk_of (heads_of (front ++ group ∷ [])))
goes_on_only [] group walk place are is end never same =
    let n = length (walk_of (group.head ∷ [])) in
    let within = upto walk (walk_of (group.head ∷ [])) same in
    let long = one_long group.head is.head.range in
    let two = long_of group.head is.head.range in
    let parts = at_place walk place (omega (arith, within, long, two, end)) in
    let place_is = parts.4 in
    never parts.0 parts.2 parts.1 parts.3 parts.4
    (goes_first group.head is.head.range parts.0 parts.2 parts.1 (omega (arith, place_is, end)) n refl
    (subst (λ (w : List WalkHop). left_by 0 (take n w) ≡ walk_of (group.head ∷ [])) parts.3 same)
    (subst (λ (w : List WalkHop). n ≤ length w) parts.3 within))
goes_on_only (first ∷ front) group walk place are is end never same =
    let target = walk_of ((first.head ∷ heads_of front) ++ group.head ∷ []) in
    let seen : walk_of (heads_of ((first ∷ front) ++ group ∷ [])) ≡ target =
    ap walk_of (map-append (λ (g : GroupValue). g.head) (first ∷ front) (group ∷ [])) in
    let here : left_by 0 (take (length target) walk) ≡ target =
    subst (λ (w : List WalkHop). left_by 0 (take (length w) walk) ≡ w) seen same in
    let within = upto walk target here in
    let long = one_longer first.head (heads_of front) group.head are.0.head.range is.head.range in
    let two = long_of group.head is.head.range in
    let parts = at_place walk place (omega (arith, within, long, two, end)) in
    let place_is = parts.4 in
    never parts.0 parts.2 parts.1 parts.3 parts.4
    (goes_later group.head is.head.range parts.0 parts.2 parts.1 first.head (heads_of front) are.0.head.range
    (ap suc place_is ∙ end) (length target) refl
    (subst (λ (w : List WalkHop). left_by 0 (take (length target) w) ≡ target) parts.3 here)
    (subst (λ (w : List WalkHop). length target ≤ length w) parts.3 within))

-- where groups and one more end
pub end_with : (place : ℕ) (front longer : List GroupValue) (group : GroupValue) → longer ≡ front ++ group ∷ []
    → IsEndOf place longer → suc place ≡ length (walk_of (heads_of longer))
end_with place front [] group is end =
    absurd (let long = ap (λ (gs : List GroupValue). length gs) is in let both = length-append front (group ∷ []) in omega (arith, long, both))
end_with place front (first ∷ later) group is end = end
