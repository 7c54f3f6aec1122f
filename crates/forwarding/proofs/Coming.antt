-- The walk that lies before a packet, step by step.
use Rattle.std.proofs.Common.{◌≡◌, ℕ, ◌+◌, ◌≤◌, List, [], ◌∷◌, ◌++◌, length, drop, Some, refl, sym, ap, ◌∙◌, arith, append_assoc}
use Rattle.std.specs.Prelude.{slice_get}
use Rattle.std.specs.List.{fold, AllByRecursion}
use Rattle.std.proofs.lemmas.List.{drop_more, drop_all, append-nil}
use Rattle.std.proofs.lemmas.Option.{get_or_from_slice_get, slice_get_within}
use Rattle.path_segment.specs.declared.entry.Entry.{Entry}
use Rattle.policy_expr.specs.declared.hop.WalkHop.{WalkHop}
use Rattle.path_verifier.specs.Piece.{PieceValue, travelled_entries}
use Rattle.path_verifier.specs.Header.{len_of}
use Rattle.path_verifier.specs.Walk.{hop_of, hops_of, entered_by, left_by, walk_with, walk_of}
use Rattle.path_verifier.proofs.Hops.{hop_there, length_hops_of}
use Rattle.forwarding.specs.PathPosition.{PathPosition, next_position, in_by, out_by}
use Rattle.forwarding.specs.Journey.{first_out, way_beyond, walk_beyond, to_come}
use Rattle.forwarding.proofs.Places.{IsLong}
use Rattle.forwarding.proofs.Switching.{at_end, at_start}

-- the hops from a place of a piece on
pub hops_from : (piece : PieceValue) (i : ℕ) (entry : Entry)
    → slice_get (travelled_entries piece) i ≡ Some entry
    → drop i (hops_of piece) ≡ hop_of piece.along entry ∷ drop (i + 1) (hops_of piece)
hops_from piece i entry there =
    let hop = hop_of piece.along entry in
    let at = hop_there piece i entry hop there refl in
    let within = slice_get_within (hops_of piece) i hop at in
    drop_more (hops_of piece) i hop within
    ∙ ap (λ (h : WalkHop). h ∷ drop (i + 1) (hops_of piece))
    (get_or_from_slice_get (hops_of piece) i hop hop at)

pub none_behind : (piece : PieceValue) (i : ℕ) → i + 1 ≡ len_of piece
    → drop (i + 1) (hops_of piece) ≡ []
none_behind piece i at_the_end = let count =
    length_hops_of piece in drop_all (i + 1) (hops_of piece) (omega arith)

-- a hop that is entered by its own way in is itself
entered_same : (w : ℕ) (hop : WalkHop) (later : List WalkHop)
    → entered_by hop.ingress (left_by w (hop ∷ later)) ≡ left_by w (hop ∷ later)
entered_same w hop [] = refl
entered_same w hop (next ∷ later) = refl

-- on one piece
pub cross : (came_in_by : ℕ) (spot : PathPosition) (entry next : Entry)
    → slice_get (travelled_entries spot.piece) spot.reached ≡ Some entry
    → slice_get (travelled_entries spot.piece) (spot.reached + 1) ≡ Some next
    → to_come came_in_by spot ≡ record {
      ia = entry.ia;
      ingress = came_in_by;
      egress =
          out_by spot.piece entry;
    } ∷ to_come (in_by spot.piece next) (next_position spot)
unfolding hop_of
cross came_in_by spot entry next here there =
    let w = way_beyond spot.later in
    let back = walk_beyond spot.later in
    let hop = hop_of spot.piece.along entry in
    let second = hop_of spot.piece.along next in
    let rest = drop (spot.reached + 1 + 1) (hops_of spot.piece) in
    let one = hops_from spot.piece spot.reached entry here in
    let two = hops_from spot.piece (spot.reached + 1) next there in
    let front : drop spot.reached (hops_of spot.piece) ≡ hop ∷ second ∷ rest = one
    ∙ ap (λ (xs : List WalkHop). hop ∷ xs) two in
    ap (λ (xs : List WalkHop). entered_by came_in_by (left_by w xs) ++ back) front
    ∙ ap (λ (xs : List WalkHop). record {
      ia = entry.ia;
      ingress = came_in_by;
      egress =
          out_by spot.piece entry;
    } ∷ (xs ++ back)) (sym (entered_same w second rest))
    ∙ ap (λ (xs : List WalkHop). record {
      ia = entry.ia;
      ingress = came_in_by;
      egress =
          out_by spot.piece entry;
    } ∷ (entered_by (in_by spot.piece next) (left_by w xs) ++ back))
    (sym two)

-- onto the next piece
pub beyond : (came_in_by : ℕ) (past later : List PieceValue) (piece next : PieceValue) (i : ℕ)
    (entry first second : Entry) → slice_get (travelled_entries piece) i ≡ Some entry → i + 1 ≡ len_of piece
    → slice_get (travelled_entries next) 0 ≡ Some first → slice_get (travelled_entries next) 1 ≡ Some second
    → entry.ia ≡ first.ia
    → to_come came_in_by (at_end past piece next later i) ≡ to_come came_in_by (at_start past piece next later)
unfolding hop_of
beyond came_in_by past later piece next i entry first second here over there further same =
    let hop = hop_of piece.along entry in
    let one : drop i (hops_of piece) ≡ hop ∷ [] = hops_from piece i entry here
    ∙ ap (λ (xs : List WalkHop). hop ∷ xs) (none_behind piece i over) in
    let f = hop_of next.along first in
    let g = hop_of next.along second in
    let more = drop (1 + 1) (hops_of next) in
    let first_hop : drop 0 (hops_of next) ≡ f ∷ drop (0 + 1) (hops_of next) =
    hops_from next 0 first there in
    let second_hop : drop 1 (hops_of next) ≡ g ∷ more = hops_from next 1 second further in
    let whole : hops_of next ≡ f ∷ g ∷ more = first_hop
    ∙ ap (λ (xs : List WalkHop). f ∷ xs) second_hop in
    let w = way_beyond later in
    let back = walk_beyond later in
    ap (λ (xs : List WalkHop). entered_by came_in_by (left_by (first_out (hops_of next)) xs) ++
    (left_by w (drop 1 (hops_of next)) ++ back)) one
    ∙ ap (λ (xs : List WalkHop). entered_by came_in_by (left_by (first_out xs) (hop ∷ [])) ++
    (left_by w (drop 1 xs) ++ back)) whole
    ∙ ap (λ ia. record { ia = ia; ingress = came_in_by; egress = f.egress } ∷
    (left_by w (g ∷ more) ++ back)) same
    ∙ sym (ap (λ (xs : List WalkHop). entered_by came_in_by (left_by w xs) ++ back) whole)

-- at the end of the path
pub finish : (came_in_by : ℕ) (spot : PathPosition) (entry : Entry)
    → slice_get (travelled_entries spot.piece) spot.reached ≡ Some entry
    → spot.reached + 1 ≡ len_of spot.piece → spot.later ≡ []
    → to_come came_in_by spot ≡ record { ia = entry.ia; ingress = came_in_by; egress = 0 } ∷ []
unfolding hop_of
finish came_in_by spot entry here over none =
    let hop = hop_of spot.piece.along entry in
    let one : drop spot.reached (hops_of spot.piece) ≡ hop ∷ [] =
    hops_from spot.piece spot.reached entry here
    ∙ ap (λ (xs : List WalkHop). hop ∷ xs) (none_behind spot.piece spot.reached over) in
    ap (λ (ps : List PieceValue). entered_by came_in_by
    (left_by (way_beyond ps) (drop spot.reached (hops_of spot.piece))) ++ walk_beyond ps) none
    ∙ ap (λ (xs : List WalkHop). entered_by came_in_by (left_by 0 xs) ++ []) one

-- ---- the whole walk

left_append : (w : ℕ) (front : List WalkHop) (hop : WalkHop) (later : List WalkHop)
    → left_by w (front ++ hop ∷ later) ≡ front ++ left_by w (hop ∷ later)
left_append w [] hop later = refl
left_append w (one ∷ []) hop later = refl
left_append w (one ∷ two ∷ front) hop later =
    ap (λ (xs : List WalkHop). one ∷ xs) (left_append w (two ∷ front) hop later)

-- a piece has two hops at least
record HasTwo (hops : List WalkHop) : Type 0 where
  pub one : WalkHop
  pub two : WalkHop
  pub more : List WalkHop
  pub is : hops ≡ one ∷ two ∷ more

two_of : (hops : List WalkHop) → 2 ≤ length hops → HasTwo hops
two_of [] long = absurd (omega arith)
two_of (one ∷ []) long = absurd (omega arith)
two_of (one ∷ two ∷ more) long = record { one = one; two = two; more = more; is = refl }

has_two : (piece : PieceValue) → IsLong piece → HasTwo (hops_of piece)
has_two piece long = let count = length_hops_of piece in two_of (hops_of piece) (omega arith)

abbrev walk_over : List (List WalkHop) → List WalkHop
walk_over hops = left_by 0 (entered_by 0 (fold walk_with [] hops))

abbrev coming_two : List WalkHop → List WalkHop → List WalkHop
coming_two a b = entered_by 0 (left_by (first_out b) a) ++ (left_by 0 (drop 1 b) ++ [])

one_walk : (x1 x2 : WalkHop) (xm : List WalkHop)
    → walk_over ((x1 ∷ x2 ∷ xm) ∷ []) ≡ entered_by 0 (left_by 0 (x1 ∷ x2 ∷ xm)) ++ []
one_walk x1 x2 xm =
    ap (λ (xs : List WalkHop). record x1 { ingress = 0 } ∷ xs)
    (sym (append-nil (left_by 0 (x2 ∷ xm))))

two_walks : (x1 x2 y1 y2 : WalkHop) (xm ym : List WalkHop)
    → walk_over ((x1 ∷ x2 ∷ xm) ∷ (y1 ∷ y2 ∷ ym) ∷ []) ≡ coming_two (x1 ∷ x2 ∷ xm) (y1 ∷ y2 ∷ ym)
two_walks x1 x2 y1 y2 xm ym =
    let first = record x1 { ingress = 0 } ∷ left_by y1.egress (x2 ∷ xm) in
    left_append 0 first y2 ym
    ∙ ap (λ (xs : List WalkHop). first ++ xs) (sym (append-nil (left_by 0 (y2 ∷ ym))))

abbrev coming_three : List WalkHop → List WalkHop → List WalkHop → List WalkHop
coming_three a b c =
    entered_by 0 (left_by (first_out b) a) ++
    (left_by (first_out c) (drop 1 b) ++ (left_by 0 (drop 1 c) ++ []))

three_walks : (x1 x2 y1 y2 z1 z2 : WalkHop) (xm ym zm : List WalkHop)
    → walk_over ((x1 ∷ x2 ∷ xm) ∷ (y1 ∷ y2 ∷ ym) ∷ (z1 ∷ z2 ∷ zm) ∷ []) ≡ coming_three
    (x1 ∷ x2 ∷ xm) (y1 ∷ y2 ∷ ym) (z1 ∷ z2 ∷ zm)
three_walks x1 x2 y1 y2 z1 z2 xm ym zm =
    let first = left_by y1.egress (x1 ∷ x2 ∷ xm) in
    let inner : left_by z1.egress (first ++ (y2 ∷ ym)) ≡ first ++ left_by z1.egress (y2 ∷ ym) =
    left_append z1.egress first y2 ym in
    let head = record x1 { ingress = 0 } ∷ left_by y1.egress (x2 ∷ xm) in
    let whole : entered_by 0 (left_by z1.egress (first ++ (y2 ∷ ym)) ++ (z2 ∷ zm)) ≡
    (head ++ left_by z1.egress (y2 ∷ ym)) ++ (z2 ∷ zm) =
    ap (λ (xs : List WalkHop). entered_by 0 (xs ++ (z2 ∷ zm))) inner in
    ap (left_by 0) whole ∙ left_append 0 (head ++ left_by z1.egress (y2 ∷ ym)) z2 zm
    ∙ append_assoc head (left_by z1.egress (y2 ∷ ym)) (left_by 0 (z2 ∷ zm))
    ∙ ap (λ (xs : List WalkHop). head ++ (left_by z1.egress (y2 ∷ ym) ++ xs))
    (sym (append-nil (left_by 0 (z2 ∷ zm))))

-- the whole walk lies before a packet that is sent
pub whole_walk : (piece : PieceValue) (later : List PieceValue) → IsLong piece
    → AllByRecursion IsLong later → length later ≤ 2
    → walk_of (piece ∷ later) ≡ to_come 0
    (record { past = []; piece = piece; later = later; reached = 0 })
unfolding walk_of
whole_walk piece [] long all few =
    let a = has_two piece long in
    ap (λ (h : List WalkHop). walk_over (h ∷ [])) a.is ∙ one_walk a.one a.two a.more
    ∙ sym (ap (λ (h : List WalkHop). entered_by 0 (left_by 0 h) ++ []) a.is)
whole_walk piece (b ∷ []) long all few =
    let x = has_two piece long in
    let y = has_two b all.0 in
    ap (λ (h : List WalkHop). walk_over (h ∷ hops_of b ∷ [])) x.is
    ∙ ap (λ (h : List WalkHop). walk_over ((x.one ∷ x.two ∷ x.more) ∷ h ∷ [])) y.is
    ∙ two_walks x.one x.two y.one y.two x.more y.more
    ∙ sym (ap (λ (h : List WalkHop). coming_two h (hops_of b)) x.is
    ∙ ap (coming_two (x.one ∷ x.two ∷ x.more)) y.is)
whole_walk piece (b ∷ c ∷ []) long all few =
    let x = has_two piece long in
    let y = has_two b all.0 in
    let z = has_two c all.1.0 in
    ap (λ (h : List WalkHop). walk_over (h ∷ hops_of b ∷ hops_of c ∷ [])) x.is
    ∙ ap (λ (h : List WalkHop). walk_over ((x.one ∷ x.two ∷ x.more) ∷ h ∷ hops_of c ∷ [])) y.is
    ∙ ap (λ (h : List WalkHop). walk_over
    ((x.one ∷ x.two ∷ x.more) ∷ (y.one ∷ y.two ∷ y.more) ∷ h ∷ [])) z.is
    ∙ three_walks x.one x.two y.one y.two z.one z.two x.more y.more z.more
    ∙ sym (ap (λ (h : List WalkHop). coming_three h (hops_of b) (hops_of c)) x.is
    ∙ ap (λ (h : List WalkHop). coming_three (x.one ∷ x.two ∷ x.more) h (hops_of c)) y.is
    ∙ ap (coming_three (x.one ∷ x.two ∷ x.more) (y.one ∷ y.two ∷ y.more)) z.is)
whole_walk piece (b ∷ c ∷ d ∷ more) long all few = absurd (omega arith)
