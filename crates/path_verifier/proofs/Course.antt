-- Where the walk of a path begins and ends.
use Rattle.std.proofs.Common.{◌≡◌, ℕ, zero, suc, ◌+◌, ◌-◌, ◌<◌, ◌≤◌, List, [], ◌∷◌, ◌++◌, length, get_or, map, drop, Some, refl, sym, ap, ◌∙◌, arith, length-append, length-drop}
use Rattle.std.specs.Prelude.{slice_get}
use Rattle.std.specs.List.{fold, AllByRecursion}
use Rattle.std.proofs.Math.ListN.{get_or-append}
use Rattle.std.proofs.lemmas.List.{length-map, map-append, append-nil, get_or-append-add, get_or-drop}
use Rattle.std.proofs.lemmas.List.Elements.{recursion_from_All}
use Rattle.std.proofs.lemmas.Option.{slice_get-get_or}
use Rattle.path_segment.specs.declared.entry.Entry.{Entry}
use Rattle.policy_expr.specs.declared.hop.WalkHop.{WalkHop}
use Rattle.path_segment.specs.Chain.{as_at}
use Rattle.path_verifier.specs.Piece.{PieceValue, HasRange, travelled_entries, begins_in, ends_in}
use Rattle.path_verifier.specs.Walk.{hop_of, hops_of, left_by, entered_by, walk_with, walk_of}
use Rattle.path_verifier.specs.Accepted.{DoBeginIn, DoEndIn, MakesPath}
use Rattle.path_verifier.proofs.Entries.{length_travelled}

abbrev pub ases : List WalkHop → List ℕ
ases hops = map (λ hop. hop.ia) hops

abbrev first_in : List ℕ → ℕ
first_in xs = get_or xs 0 0

abbrev last_in : List ℕ → ℕ
last_in xs = get_or xs (length xs - 1) 0

pub ases-left_by : (way : ℕ) (hops : List WalkHop) → ases (left_by way hops) ≡ ases hops
ases-left_by way [] = refl
ases-left_by way (hop ∷ []) = refl
ases-left_by way (hop ∷ next ∷ later) = ap (λ xs. hop.ia ∷ xs) (ases-left_by way (next ∷ later))

pub ases-entered_by : (way : ℕ) (hops : List WalkHop) → ases (entered_by way hops) ≡ ases hops
ases-entered_by way [] = refl
ases-entered_by way (hop ∷ later) = refl

pub joined_none : (hops : List WalkHop) → walk_with [] hops ≡ hops
joined_none [] = refl
joined_none (hop ∷ later) = refl

pub ases-joined : (walk hops : List WalkHop) → 0 < length walk
    → ases (walk_with walk hops) ≡ ases walk ++ drop 1 (ases hops)
ases-joined walk [] some = sym (append-nil (ases walk))
ases-joined [] (hop ∷ later) some = absurd (omega arith)
ases-joined (first ∷ rest) (hop ∷ later) some =
    map-append (λ (h : WalkHop). h.ia) (left_by hop.egress (first ∷ rest)) later ∙ ap (λ xs. xs ++ ases later)
    (ases-left_by hop.egress (first ∷ rest))

at_map : (entries : List Entry) (k : ℕ) → get_or (map (λ (entry : Entry). entry.ia) entries) k 0 ≡ as_at entries k
at_map [] zero = refl
at_map [] (suc k) = refl
at_map (entry ∷ entries) zero = refl
at_map (entry ∷ entries) (suc k) = at_map entries k

ases_travelled : (along : _) (entries : List Entry)
    → ases (map (hop_of along) entries) ≡ map (λ (entry : Entry). entry.ia) entries
unfolding hop_of
ases_travelled along [] = refl
ases_travelled along (entry ∷ entries) = ap (λ xs. entry.ia ∷ xs) (ases_travelled along entries)

ases-hops_of : (piece : PieceValue) → ases (hops_of piece) ≡ map (λ (entry : Entry). entry.ia) (travelled_entries piece)
unfolding hops_of
ases-hops_of piece = ases_travelled piece.along (travelled_entries piece)

begins : (piece : PieceValue) → first_in (ases (hops_of piece)) ≡ begins_in piece
unfolding begins_in
begins piece = ap first_in (ases-hops_of piece) ∙ at_map (travelled_entries piece) 0

ends : (piece : PieceValue) → last_in (ases (hops_of piece)) ≡ ends_in piece
unfolding ends_in
ends piece =
    ap last_in (ases-hops_of piece) ∙ ap
    (λ n. get_or (map (λ (entry : Entry). entry.ia) (travelled_entries piece)) (n - 1) 0)
    (length-map (travelled_entries piece) (λ entry. entry.ia))
    ∙ at_map (travelled_entries piece) (length (travelled_entries piece) - 1)

pub two_ases : (piece : PieceValue) → HasRange piece → 2 ≤ length (ases (hops_of piece))
two_ases piece range =
    let count = length_travelled piece range in
    let order = range.order in
    rw (ases-hops_of piece, length-map) (omega arith)

first_append : (xs ys : List ℕ) → 0 < length xs → first_in (xs ++ ys) ≡ first_in xs
first_append xs ys some = get_or-append xs ys 0 0 some

last_append : (xs ys : List ℕ) → 2 ≤ length ys → last_in (xs ++ drop 1 ys) ≡ last_in ys
last_append xs ys two =
    let count : length (xs ++ drop 1 ys) ≡ length xs + (length ys - 1) = simp (length-append, length-drop) refl in
    let place : length (xs ++ drop 1 ys) - 1 ≡ length xs + (length ys - 2) = omega arith in
    let behind : 1 + (length ys - 2) ≡ length ys - 1 = omega arith in
    ap (λ k. get_or (xs ++ drop 1 ys) k 0) place ∙ get_or-append-add xs (drop 1 ys)
    (length ys - 2) 0 ∙ get_or-drop 1 ys (length ys - 2) 0
    ∙ ap (λ k. get_or ys k 0) behind

some_joined : (walk hops : List WalkHop) → 0 < length walk → 0 < length (walk_with walk hops)
some_joined walk hops some =
    let same : length (ases (walk_with walk hops)) ≡ length (ases walk) + length (drop 1 (ases hops)) =
    rw (ases-joined walk hops some) (length-append (ases walk) (drop 1 (ases hops))) in
    let long = length-map walk (λ (h : WalkHop). h.ia) in
    let longer = length-map (walk_with walk hops) (λ (h : WalkHop). h.ia) in
    omega arith

some_fold : (walk : List WalkHop) (pieces : List PieceValue) → 0 < length walk
    → 0 < length (ases (fold walk_with walk (map hops_of pieces)))
some_fold walk [] some = rw (length-map walk (λ (h : WalkHop). h.ia)) some
some_fold walk (piece ∷ pieces) some =
    some_fold (walk_with walk (hops_of piece)) pieces (some_joined walk (hops_of piece) some)

begins_still : (walk : List WalkHop) (pieces : List PieceValue) → 0 < length walk
    → first_in (ases (fold walk_with walk (map hops_of pieces))) ≡ first_in (ases walk)
begins_still walk [] some = refl
begins_still walk (piece ∷ pieces) some =
    let long = length-map walk (λ (h : WalkHop). h.ia) in
    begins_still (walk_with walk (hops_of piece)) pieces (some_joined walk (hops_of piece) some)
    ∙ ap first_in (ases-joined walk (hops_of piece) some) ∙ first_append (ases walk)
    (drop 1 (ases (hops_of piece))) (omega arith)

ends_at_last : (walk : List WalkHop) (piece : PieceValue) (pieces : List PieceValue) (dst : ℕ)
    → 0 < length walk → last_in (ases walk) ≡ ends_in piece
    → AllByRecursion HasRange pieces → DoEndIn dst (piece ∷ pieces)
    → last_in (ases (fold walk_with walk (map hops_of pieces))) ≡ dst
ends_at_last walk piece [] dst some last ranges end = last ∙ end
ends_at_last walk piece (next ∷ pieces) dst some last ranges end =
    ends_at_last (walk_with walk (hops_of next)) next pieces dst (some_joined walk (hops_of next) some)
    (ap last_in (ases-joined walk (hops_of next) some) ∙ last_append (ases walk) (ases (hops_of next)) (two_ases next ranges.0) ∙ ends next)
    ranges.1 end

ases-walk_of : (pieces : List PieceValue) → ases (walk_of pieces) ≡ ases (fold walk_with [] (map hops_of pieces))
unfolding walk_of
ases-walk_of pieces =
    ases-left_by 0 (entered_by 0 (fold walk_with [] (map hops_of pieces))) ∙ ases-entered_by 0
    (fold walk_with [] (map hops_of pieces))

some_hops : (piece : PieceValue) → HasRange piece → 0 < length (walk_with [] (hops_of piece))
some_hops piece range =
    let two = two_ases piece range in
    let long = length-map (hops_of piece) (λ (h : WalkHop). h.ia) in
    rw (joined_none (hops_of piece)) (omega arith)

pub walk_begins : (pieces : List PieceValue) (src : ℕ) → AllByRecursion HasRange pieces → DoBeginIn src pieces
    → first_in (ases (walk_of pieces)) ≡ src
walk_begins [] src ranges begin = absurd begin
walk_begins (piece ∷ pieces) src ranges begin =
    ap first_in (ases-walk_of (piece ∷ pieces)) ∙ begins_still (walk_with [] (hops_of piece)) pieces
    (some_hops piece ranges.0)
    ∙ ap (λ hops. first_in (ases hops)) (joined_none (hops_of piece)) ∙ begins piece ∙ begin

pub walk_ends : (pieces : List PieceValue) (dst : ℕ) → AllByRecursion HasRange pieces → DoEndIn dst pieces
    → last_in (ases (walk_of pieces)) ≡ dst
walk_ends [] dst ranges end = absurd end
walk_ends (piece ∷ pieces) dst ranges end =
    ap last_in (ases-walk_of (piece ∷ pieces))
    ∙ ends_at_last (walk_with [] (hops_of piece)) piece pieces dst (some_hops piece ranges.0)
    (ap (λ hops. last_in (ases hops)) (joined_none (hops_of piece)) ∙ ends piece) ranges.1 end

some_walk : (pieces : List PieceValue) (dst : ℕ) → 0 < length pieces → AllByRecursion HasRange pieces
    → 0 < length (ases (walk_of pieces))
some_walk [] dst some ranges = absurd (omega arith)
some_walk (piece ∷ pieces) dst some ranges =
    rw (ases-walk_of (piece ∷ pieces)) (some_fold (walk_with [] (hops_of piece)) pieces (some_hops piece ranges.0))

pub path_begins : (pieces : List PieceValue) (src dst now : ℕ) → MakesPath pieces src dst now
    → slice_get (ases (walk_of pieces)) 0 ≡ Some src
path_begins pieces src dst now path =
    let ranges = recursion_from_All HasRange pieces path.ranges in
    slice_get-get_or (ases (walk_of pieces)) 0 0 (some_walk pieces dst path.some ranges) ∙ ap Some
    (walk_begins pieces src ranges path.source)

pub path_ends : (pieces : List PieceValue) (src dst now : ℕ) → MakesPath pieces src dst now
    → slice_get (ases (walk_of pieces)) (length (walk_of pieces) - 1) ≡ Some dst
path_ends pieces src dst now path =
    let ranges = recursion_from_All HasRange pieces path.ranges in
    let some = some_walk pieces dst path.some ranges in
    let long : length (ases (walk_of pieces)) ≡ length (walk_of pieces) =
    length-map (walk_of pieces) (λ (h : WalkHop). h.ia) in
    rw (← long) (slice_get-get_or (ases (walk_of pieces)) (length (ases (walk_of pieces)) - 1) 0 (omega arith) ∙ ap Some (walk_ends pieces dst ranges path.destination))
