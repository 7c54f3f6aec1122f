-- Longer lists of pieces have longer walks; no path goes on from its destination.
use Rattle.std.proofs.Common.{◌≡◌, ℕ, zero, suc, ◌-◌, ◌<◌, ◌≤◌, List, Option, Some, None, [], ◌∷◌, ◌++◌, length, get_or, map, take, refl, sym, ap, subst, ◌∙◌, arith, append_assoc, length-append}
use Rattle.std.specs.Prelude.{slice_get, option_map}
use Rattle.std.specs.List.{fold, AllByRecursion}
use Rattle.std.proofs.lemmas.List.{length-map, map-append}
use Rattle.std.proofs.lemmas.List.Elements.{recursion_from_All}
use Rattle.std.proofs.lemmas.Option.{slice_get-map, slice_get-get_or}
use Rattle.policy_expr.specs.declared.hop.WalkHop.{WalkHop}
use Rattle.path_verifier.specs.Piece.{PieceValue, HasRange, ends_in}
use Rattle.path_verifier.specs.Walk.{hops_of, left_by, walk_with, walk_of}
use Rattle.path_verifier.specs.Accepted.{DoEndIn, MakesPath}
use Rattle.path_verifier.proofs.Course.{ases, joined_none, walk_ends, path_ends}
use Rattle.path_verifier.proofs.Hops.{length_left_by, length_hops_of}
use Rattle.path_verifier.proofs.TurnedCounts.{long_of}
use Rattle.combinator.proofs.Joined.{closed, left_left, left_append, entered_front, length_closed}
use Rattle.combinator.proofs.Prefix.{fold_append, walk_prefix}

longer_with : (walk hops : List WalkHop) → length walk ≤ length (walk_with walk hops)
longer_with [] hops = omega arith
longer_with (first ∷ rest) [] = omega arith
longer_with (first ∷ rest) (hop ∷ later) =
    let both = length-append (left_by hop.egress (first ∷ rest)) later in
    let same = length_left_by hop.egress (first ∷ rest) in
    omega arith

much_longer : (walk hops : List WalkHop) → 2 ≤ length hops → length walk < length (walk_with walk hops)
much_longer walk [] two = absurd (omega (arith, two))
much_longer walk (hop ∷ []) two = absurd (omega (arith, two))
much_longer [] (hop ∷ next ∷ later) two = omega arith
much_longer (first ∷ rest) (hop ∷ next ∷ later) two =
    let both = length-append (left_by hop.egress (first ∷ rest)) (next ∷ later) in
    let same = length_left_by hop.egress (first ∷ rest) in
    omega arith

fold_longer : (walk : List WalkHop) (hs : List (List WalkHop)) → length walk ≤ length (fold walk_with walk hs)
fold_longer walk [] = omega arith
fold_longer walk (h ∷ hs) =
    let one = longer_with walk h in
    let more = fold_longer (walk_with walk h) hs in
    omega arith

two_hops : (piece : PieceValue) → HasRange piece → 2 ≤ length (hops_of piece)
two_hops piece range = (let many = length_hops_of piece in let two = long_of piece range in omega arith)

-- with one more piece the walk is longer
pub walk_longer : (front later : List PieceValue) (piece : PieceValue) → HasRange piece
    → length (walk_of front) < length (walk_of (front ++ piece ∷ later))
unfolding walk_of
walk_longer front later piece range =
    let walk = fold walk_with [] (map hops_of front) in
    let whole : fold walk_with [] (map hops_of (front ++ piece ∷ later)) ≡ fold walk_with (walk_with walk (hops_of piece)) (map hops_of later) =
    ap (fold walk_with []) (map-append hops_of front (piece ∷ later)) ∙ fold_append [] (map hops_of front) (map hops_of (piece ∷ later)) in
    let mine = length_closed walk in
    let all = length_closed (fold walk_with [] (map hops_of (front ++ piece ∷ later))) in
    let same = ap (λ (hs : List WalkHop). length hs) whole in
    let one = much_longer walk (hops_of piece) (two_hops piece range) in
    let more = fold_longer (walk_with walk (hops_of piece)) (map hops_of later) in
    omega arith

-- ---- one more piece

-- the walk with one more piece: the way out of its first hop becomes the last way out, and its later
-- hops follow
pub walk_push : (first : PieceValue) (front : List PieceValue) (piece : PieceValue) (hop next : WalkHop) (later : List WalkHop)
    → HasRange first → hops_of piece ≡ hop ∷ next ∷ later
    → walk_of ((first ∷ front) ++ piece ∷ []) ≡ left_by hop.egress (walk_of (first ∷ front)) ++ left_by 0 (next ∷ later)
unfolding walk_of
walk_push first front piece hop next later range are =
    let walk = fold walk_with [] (map hops_of (first ∷ front)) in
    ap (λ hs. closed (fold walk_with [] hs)) (map-append hops_of (first ∷ front) (piece ∷ []))
    ∙ ap closed (fold_append [] (map hops_of (first ∷ front)) (hops_of piece ∷ []))
    ∙ ap (λ hs. closed (walk_with walk hs)) are
    ∙ on_cons walk (let one = two_hops first range in let same = ap (λ (hs : List WalkHop). length hs) (joined_none (hops_of first)) in let more = fold_longer (walk_with [] (hops_of first)) (map hops_of front) in omega arith)
  where
    on_cons : (walk : List WalkHop) → 0 < length walk
        → closed (walk_with walk (hop ∷ next ∷ later)) ≡ left_by hop.egress (closed walk) ++ left_by 0 (next ∷ later)
    on_cons [] some = absurd (omega (arith, some))
    on_cons (one ∷ rest) some =
        ap (left_by 0) (entered_front 0 hop.egress one rest (next ∷ later))
        ∙ left_append 0 (left_by hop.egress (record one { ingress = 0 } ∷ rest)) next later
        ∙ ap (λ hs. hs ++ left_by 0 (next ∷ later)) (sym (left_left hop.egress 0 (record one { ingress = 0 } ∷ rest)))

-- ---- nothing behind the destination

ases-left_by : (way : ℕ) (hops : List WalkHop) → ases (left_by way hops) ≡ ases hops
ases-left_by way [] = refl
ases-left_by way (hop ∷ []) = refl
ases-left_by way (hop ∷ next ∷ later) = ap (λ xs. hop.ia ∷ xs) (ases-left_by way (next ∷ later))

do_end : (front : List PieceValue) (piece : PieceValue) → DoEndIn (ends_in piece) (front ++ piece ∷ [])
do_end [] piece = refl
do_end (one ∷ []) piece = refl
do_end (one ∷ next ∷ front) piece = do_end (next ∷ front) piece

ranges_front : (front later : List PieceValue) → AllByRecursion HasRange (front ++ later) → AllByRecursion HasRange front
ranges_front [] later ranges = tt
ranges_front (one ∷ front) later ranges = (ranges.0, ranges_front front later ranges.1)

range_there : (front later : List PieceValue) (piece : PieceValue) → AllByRecursion HasRange (front ++ piece ∷ later) → HasRange piece
range_there [] later piece ranges = ranges.0
range_there (one ∷ front) later piece ranges = range_there front later piece ranges.1

get_take : (xs : List ℕ) (n k : ℕ) → k < n → n ≤ length xs → slice_get (take n xs) k ≡ slice_get xs k
get_take [] n k less within = absurd (omega (arith, less, within))
get_take (x ∷ xs) zero k less within = absurd (omega (arith, less))
get_take (x ∷ xs) (suc n) zero less within = refl
get_take (x ∷ xs) (suc n) (suc k) less within = get_take xs n k (omega (arith, less)) (omega (arith, within))

map_take : (n : ℕ) (hops : List WalkHop) → ases (take n hops) ≡ take n (ases hops)
map_take zero hops = refl
map_take (suc n) [] = refl
map_take (suc n) (hop ∷ hops) = ap (λ xs. hop.ia ∷ xs) (map_take n hops)

hop_there : (hop : Option WalkHop) (ia : ℕ) → option_map (λ (h : WalkHop). h.ia) hop ≡ Some ia
    → (one : WalkHop) × (hop ≡ Some one) × (one.ia ≡ ia)
hop_there None ia is = absurd cc
hop_there (Some one) ia is = (one, refl, cc)

pub nothing_behind : (front later : List PieceValue) (piece next : PieceValue) (src dst now : ℕ)
    → MakesPath (front ++ piece ∷ next ∷ later) src dst now → ends_in piece ≡ dst → ⊥
nothing_behind front later piece next src dst now path ends =
    let pieces = front ++ piece ∷ next ∷ later in
    let part = front ++ piece ∷ [] in
    let whole : pieces ≡ part ++ next ∷ later = sym (append_assoc front (piece ∷ []) (next ∷ later)) in
    let ranges : AllByRecursion HasRange (part ++ next ∷ later) =
    subst (AllByRecursion HasRange) whole (recursion_from_All HasRange pieces path.ranges) in
    let range : HasRange next = range_there part later next ranges in
    let walk = walk_of pieces in
    let n = length (walk_of part) in
    let longer : n < length walk = subst (λ (ps : List PieceValue). n < length (walk_of ps)) (sym whole) (walk_longer part later next range) in
    let some : 0 < n = (let first = walk_longer front [] piece (range_there front (next ∷ later) piece (recursion_from_All HasRange pieces path.ranges)) in omega (arith, first)) in
    let prefix : left_by 0 (take n walk) ≡ walk_of part =
    subst (λ (ps : List PieceValue). left_by 0 (take n (walk_of ps)) ≡ walk_of part) (sym whole) (walk_prefix part (next ∷ later)) in
    let names : take n (ases walk) ≡ ases (walk_of part) =
    sym (map_take n walk) ∙ sym (ases-left_by 0 (take n walk)) ∙ ap ases prefix in
    let count : length (ases (walk_of part)) ≡ n = length-map (walk_of part) (λ (h : WalkHop). h.ia) in
    let total : length (ases walk) ≡ length walk = length-map walk (λ (h : WalkHop). h.ia) in
    let last : get_or (ases (walk_of part)) (length (ases (walk_of part)) - 1) 0 ≡ dst =
    walk_ends part (ends_in piece) (ranges_front part (next ∷ later) ranges) (do_end front piece) ∙ ends in
    let here : slice_get (ases walk) (n - 1) ≡ Some dst =
    sym (get_take (ases walk) n (n - 1) (omega (arith, some)) (omega (arith, total, longer)))
    ∙ ap (λ (xs : List ℕ). slice_get xs (n - 1)) names
    ∙ slice_get-get_or (ases (walk_of part)) (n - 1) 0 (omega (arith, count, some))
    ∙ ap Some (ap (λ (k : ℕ). get_or (ases (walk_of part)) (k - 1) 0) (sym count) ∙ last) in
    let there : slice_get (ases walk) (length walk - 1) ≡ Some dst = path_ends pieces src dst now path in
    let one = hop_there (slice_get walk (n - 1)) dst (sym (slice_get-map (λ (h : WalkHop). h.ia) walk (n - 1)) ∙ here) in
    let other = hop_there (slice_get walk (length walk - 1)) dst (sym (slice_get-map (λ (h : WalkHop). h.ia) walk (length walk - 1)) ∙ there) in
    let same : n - 1 ≡ length walk - 1 = path.once (n - 1) (length walk - 1) one.0 other.0 one.1 other.1 (one.2 ∙ sym other.2) in
    omega (arith, same, longer, some)
