-- How many hops the walk of a path has, and of which kinds its pieces are.
use Rattle.std.proofs.Common.{◌≡◌, ℕ, ◌+◌, ◌<◌, ◌≤◌, List, [], ◌∷◌, ◌++◌, length, map, ap, ◌∙◌, arith, refl, length-append}
use Rattle.std.specs.List.{fold, AllByRecursion}
use Rattle.std.proofs.lemmas.List.{length-map}
use Rattle.std.proofs.lemmas.List.Elements.{recursion_from_All}
use Rattle.std.proofs.lemmas.List.Sums.{sum_by-cons}
use Rattle.policy_expr.specs.declared.hop.WalkHop.{WalkHop}
use Rattle.path_verifier.specs.declared.kind.PieceKind.{PieceKind}
use Rattle.path_verifier.specs.declared.kind.PieceKind.TheVariants.{Up, Core, Down}
use Rattle.path_verifier.specs.Piece.{PieceValue, HasRange, kind_of}
use Rattle.path_verifier.specs.Walk.{hops_of, left_by, entered_by, walk_with, walk_of}
use Rattle.path_verifier.specs.Header.{len_of, total_hops}
use Rattle.path_verifier.specs.Accepted.{MayAdjoin, DoAdjoin, MakesPath}
use Rattle.path_verifier.proofs.Course.{two_ases, joined_none}
use Rattle.path_verifier.proofs.Hops.{length_left_by, length_hops_of}

-- ---- at most as many hops as hop fields

length_joined : (walk hops : List WalkHop) → length (walk_with walk hops) ≤ length walk + length hops
length_joined walk [] = omega arith
length_joined [] (hop ∷ later) = omega arith
length_joined (first ∷ rest) (hop ∷ later) =
    let same = length_left_by hop.egress (first ∷ rest) in
    let count = length-append (left_by hop.egress (first ∷ rest)) later in
    omega arith

length_folded : (walk : List WalkHop) (pieces : List PieceValue)
    → length (fold walk_with walk (map hops_of pieces)) ≤ length walk + total_hops pieces
length_folded walk [] = omega arith
length_folded walk (piece ∷ pieces) =
    let more = length_folded (walk_with walk (hops_of piece)) pieces in
    let one = length_joined walk (hops_of piece) in
    let count = length_hops_of piece in
    let total = sum_by-cons len_of piece pieces in
    omega arith

length_entered : (way : ℕ) (hops : List WalkHop) → length (entered_by way hops) ≡ length hops
length_entered way [] = refl
length_entered way (hop ∷ later) = refl

length_walk_of : (pieces : List PieceValue) → length (walk_of pieces) ≡ length (fold walk_with [] (map hops_of pieces))
unfolding walk_of
length_walk_of pieces =
    let hops = fold walk_with [] (map hops_of pieces) in
    length_left_by 0 (entered_by 0 hops) ∙ length_entered 0 hops

pub walk_is_short : (pieces : List PieceValue) → length (walk_of pieces) ≤ total_hops pieces
walk_is_short pieces =
    let a = length_walk_of pieces in
    let c = length_folded [] pieces in
    omega arith

-- ---- at least two

longer_joined : (walk hops : List WalkHop) → length walk ≤ length (walk_with walk hops)
longer_joined walk [] = omega arith
longer_joined [] (hop ∷ later) = omega arith
longer_joined (first ∷ rest) (hop ∷ later) =
    let same = length_left_by hop.egress (first ∷ rest) in
    let count = length-append (left_by hop.egress (first ∷ rest)) later in
    omega arith

longer_folded : (walk : List WalkHop) (pieces : List PieceValue)
    → length walk ≤ length (fold walk_with walk (map hops_of pieces))
longer_folded walk [] = omega arith
longer_folded walk (piece ∷ pieces) =
    let more = longer_folded (walk_with walk (hops_of piece)) pieces in
    let one = longer_joined walk (hops_of piece) in
    omega arith

some_pieces : (pieces : List PieceValue) → 0 < length pieces → AllByRecursion HasRange pieces
    → 2 ≤ length (fold walk_with [] (map hops_of pieces))
some_pieces [] some ranges = absurd (omega arith)
some_pieces (piece ∷ pieces) some ranges =
    let two = two_ases piece ranges.0 in
    let long = length-map (hops_of piece) (λ (h : WalkHop). h.ia) in
    let first = ap (λ (hops : List WalkHop). length hops) (joined_none (hops_of piece)) in
    let more = longer_folded (walk_with [] (hops_of piece)) pieces in
    omega arith

pub walk_is_long : (pieces : List PieceValue) (src dst now : ℕ) → MakesPath pieces src dst now
    → 2 ≤ length (walk_of pieces)
walk_is_long pieces src dst now path =
    let a = length_walk_of pieces in
    let two = some_pieces pieces path.some (recursion_from_All HasRange pieces path.ranges) in
    omega arith

-- ---- kinds

no_four : (a b c d : PieceKind) → MayAdjoin a b → MayAdjoin b c → MayAdjoin c d → ⊥
no_four Up Core Down d one two three = three
no_four Up Core Up d one two three = two
no_four Up Core Core d one two three = two
no_four Up Up c d one two three = one
no_four Up Down c d one two three = two
no_four Core Up c d one two three = one
no_four Core Core c d one two three = one
no_four Core Down c d one two three = two
no_four Down b c d one two three = one

pub three_at_most : (pieces : List PieceValue) → DoAdjoin (map kind_of pieces) → length pieces ≤ 3
three_at_most [] adjoin = omega arith
three_at_most (a ∷ []) adjoin = omega arith
three_at_most (a ∷ b ∷ []) adjoin = omega arith
three_at_most (a ∷ b ∷ c ∷ []) adjoin = omega arith
three_at_most (a ∷ b ∷ c ∷ d ∷ more) adjoin =
    absurd (no_four (kind_of a) (kind_of b) (kind_of c) (kind_of d) adjoin.0 adjoin.1.0 adjoin.1.1.0)

adjoin_in : (past later : List PieceValue) (piece next : PieceValue)
    → DoAdjoin (map kind_of (past ++ (piece ∷ (next ∷ later)))) → MayAdjoin (kind_of piece) (kind_of next)
adjoin_in [] later piece next adjoin = adjoin.0
adjoin_in (a ∷ []) later piece next adjoin = adjoin.1.0
adjoin_in (a ∷ b ∷ past) later piece next adjoin = adjoin_in (b ∷ past) later piece next adjoin.1

-- ---- the laws

pub path_is_short : (pieces : List PieceValue) (src dst now : ℕ) → MakesPath pieces src dst now → length pieces ≤ 3
path_is_short pieces src dst now path = three_at_most pieces path.kinds

pub pieces_adjoin : (past later : List PieceValue) (piece next : PieceValue) (src dst now : ℕ)
    → MakesPath (past ++ (piece ∷ (next ∷ later))) src dst now
    → MayAdjoin (kind_of piece) (kind_of next)
pieces_adjoin past later piece next src dst now path = adjoin_in past later piece next path.kinds
