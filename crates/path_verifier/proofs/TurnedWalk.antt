-- The walk of the turned pieces is the walk the other way.
use Rattle.std.proofs.Common.{◌≡◌, ℕ, ◌+◌, ◌-◌, ◌<◌, ◌≤◌, List, [], ◌∷◌, ◌++◌, length, get_or, map, Option, Some, None, refl, sym, ap, ◌∙◌, arith, append_assoc, length-append}
use Rattle.std.specs.Prelude.{slice_get, reverse, option_map}
use Rattle.std.specs.List.{fold, AllByRecursion}
use Rattle.std.proofs.lemmas.List.{reverse-append, length-reverse, length-map, map-append, append-nil, get_or-reverse}
use Rattle.std.proofs.lemmas.Option.{slice_get-map, slice_get-get_or, slice_get_within, get_or_from_slice_get, same_Some}
use Rattle.path_segment.specs.declared.entry.Entry.{Entry}
use Rattle.policy_expr.specs.declared.hop.WalkHop.{WalkHop}
use Rattle.path_segment.specs.Chain.{as_at}
use Rattle.path_verifier.specs.Piece.{PieceValue, travelled_entries, begins_in, ends_in}
use Rattle.path_verifier.specs.Walk.{hop_of, hops_of, left_by, entered_by, with_meeting_hop, walk_with, walk_of}
use Rattle.path_verifier.specs.Accepted.{DoMeet, NamesOnce}
use Rattle.path_verifier.proofs.Hops.{length_hops_of, length_left_by}
use Rattle.path_verifier.specs.Turned.{turned_piece, turned_pieces, turned_hop, turned_walk}
use Rattle.path_verifier.proofs.TurnedCounts.{IsLong}
use Rattle.path_verifier.proofs.Turned.{reverse_cons, hops_turned, begins_turned}

-- ---- hops the other way

turned_cons : (hop : WalkHop) (hops : List WalkHop)
    → turned_walk (hop ∷ hops) ≡ turned_walk hops ++ turned_hop hop ∷ []
turned_cons hop hops = reverse_cons (turned_hop hop) (map turned_hop hops)

turned_append : (a b : List WalkHop) → turned_walk (a ++ b) ≡ turned_walk b ++ turned_walk a
turned_append a b = ap (λ (hs : List WalkHop). reverse hs) (map-append turned_hop a b)
    ∙ reverse-append (map turned_hop a) (map turned_hop b)

pub length_turned : (hops : List WalkHop) → length (turned_walk hops) ≡ length hops
length_turned hops = length-reverse (map turned_hop hops) ∙ length-map hops turned_hop

entered_append : (way : ℕ) (a b : List WalkHop) → 0 < length a
    → entered_by way (a ++ b) ≡ entered_by way a ++ b
entered_append way [] b some = absurd (omega arith)
entered_append way (hop ∷ a) b some = refl

left_append : (way : ℕ) (front : List WalkHop) (hop : WalkHop) (later : List WalkHop)
    → left_by way (front ++ hop ∷ later) ≡ front ++ left_by way (hop ∷ later)
left_append way [] hop later = refl
left_append way (one ∷ []) hop later = refl
left_append way (one ∷ two ∷ front) hop later =
    ap (λ (hs : List WalkHop). one ∷ hs) (left_append way (two ∷ front) hop later)

-- the way out of the last hop is the way into the first of the way back
turned_left : (way : ℕ) (hops : List WalkHop)
    → turned_walk (left_by way hops) ≡ entered_by way (turned_walk hops)
turned_left way [] = refl
turned_left way (hop ∷ []) = refl
turned_left way (hop ∷ next ∷ later) =
    let count = length_turned (next ∷ later) in
    let some : 0 < length (turned_walk (next ∷ later)) = omega arith in
    turned_cons hop (left_by way (next ∷ later))
    ∙ ap (λ (hs : List WalkHop). hs ++ turned_hop hop ∷ []) (turned_left way (next ∷ later))
    ∙ sym (entered_append way (turned_walk (next ∷ later)) (turned_hop hop ∷ []) some)
    ∙ ap (entered_by way) (sym (turned_cons hop (next ∷ later)))

turned_entered : (way : ℕ) (hops : List WalkHop)
    → turned_walk (entered_by way hops) ≡ left_by way (turned_walk hops)
turned_entered way [] = refl
turned_entered way (hop ∷ later) =
    turned_cons (record hop { ingress = way }) later
    ∙ sym (left_append way (turned_walk later) (turned_hop hop) [])
    ∙ ap (left_by way) (sym (turned_cons hop later))

both_ends : (a b : ℕ) (hops : List WalkHop)
    → entered_by a (left_by b hops) ≡ left_by b (entered_by a hops)
both_ends a b [] = refl
both_ends a b (hop ∷ []) = refl
both_ends a b (hop ∷ next ∷ later) = refl

turned_ends : (hops : List WalkHop)
    → turned_walk (left_by 0 (entered_by 0 hops)) ≡ left_by 0 (entered_by 0 (turned_walk hops))
turned_ends hops = turned_left 0 (entered_by 0 hops) ∙ ap (entered_by 0) (turned_entered 0 hops)
    ∙ both_ends 0 0 (turned_walk hops)

-- ---- hops that are joined

abbrev first_as : List WalkHop → ℕ
first_as [] = 0
first_as (hop ∷ later) = hop.ia

joined_none : (hops : List WalkHop) → walk_with [] hops ≡ hops
joined_none [] = refl
joined_none (hop ∷ later) = refl

met_some : (walk : List WalkHop) (hop : WalkHop) → 0 < length walk
    → with_meeting_hop walk hop ≡ left_by hop.egress walk
met_some [] hop some = absurd (omega arith)
met_some (first ∷ rest) hop some = refl

first_left : (way : ℕ) (hops : List WalkHop) → first_as (left_by way hops) ≡ first_as hops
first_left way [] = refl
first_left way (hop ∷ []) = refl
first_left way (hop ∷ next ∷ later) = refl

first_append : (a b : List WalkHop) → 0 < length a → first_as (a ++ b) ≡ first_as a
first_append [] b some = absurd (omega arith)
first_append (hop ∷ a) b some = refl

first_joined : (walk hops : List WalkHop) → 0 < length walk
    → first_as (walk_with walk hops) ≡ first_as walk
first_joined walk [] some = refl
first_joined walk (hop ∷ later) some =
    let same = length_left_by hop.egress walk in
    let still : 0 < length (left_by hop.egress walk) = omega arith in
    ap (λ (hs : List WalkHop). first_as (hs ++ later)) (met_some walk hop some)
    ∙ first_append (left_by hop.egress walk) later still ∙ first_left hop.egress walk

some_joined : (walk hops : List WalkHop) → 0 < length walk → 0 < length (walk_with walk hops)
some_joined walk [] some = some
some_joined walk (hop ∷ later) some =
    let same = length_left_by hop.egress walk in
    let is : length (walk_with walk (hop ∷ later)) ≡ length (left_by hop.egress walk) + length later =
    ap (λ (hs : List WalkHop). length (hs ++ later)) (met_some walk hop some)
    ∙ length-append (left_by hop.egress walk) later in
    omega arith

meeting : (x y : WalkHop) → x.ia ≡ y.ia
    → record x { ingress = y.egress } ≡ record (turned_hop y) { egress = x.egress }
meeting x y same = ap (λ ia. record { ia = ia; ingress = y.egress; egress = x.egress }) same

turned_joined_at : (walk back later : List WalkHop) (x y : WalkHop) → 0 < length walk
    → turned_walk walk ≡ x ∷ back → x.ia ≡ y.ia
    → turned_walk (walk_with walk (y ∷ later)) ≡ walk_with (turned_walk (y ∷ later)) (turned_walk walk)
turned_joined_at walk back later x y some is same =
    let front = turned_walk later in
    let count = length-append front (turned_hop y ∷ []) in
    let some_front : 0 < length (front ++ turned_hop y ∷ []) = omega arith in
    ap (λ (hs : List WalkHop). turned_walk (hs ++ later)) (met_some walk y some)
    ∙ turned_append (left_by y.egress walk) later
    ∙ ap (λ (hs : List WalkHop). front ++ hs)
    (turned_left y.egress walk ∙ ap (entered_by y.egress) is)
    ∙ ap (λ (h : WalkHop). front ++ h ∷ back) (meeting x y same)
    ∙ sym (append_assoc front (record (turned_hop y) { egress = x.egress } ∷ []) back)
    ∙ ap (λ (hs : List WalkHop). hs ++ back) (sym (left_append x.egress front (turned_hop y) []))
    ∙ ap (λ (hs : List WalkHop). hs ++ back)
    (sym (met_some (front ++ turned_hop y ∷ []) x some_front))
    ∙ ap (λ (hs : List WalkHop). walk_with hs (x ∷ back)) (sym (turned_cons y later))
    ∙ ap (λ (hs : List WalkHop). walk_with (turned_walk (y ∷ later)) hs) (sym is)

-- joined hops the other way are the others joined with the ones
turned_joined : (walk hops : List WalkHop) → 0 < length walk → 0 < length hops
    → first_as (turned_walk walk) ≡ first_as hops
    → turned_walk (walk_with walk hops) ≡ walk_with (turned_walk hops) (turned_walk walk)
turned_joined walk [] some some_hops same = absurd (omega arith)
turned_joined walk (y ∷ later) some some_hops same = go (turned_walk walk) refl
  where
    go : (back : List WalkHop) → turned_walk walk ≡ back
        → turned_walk (walk_with walk (y ∷ later)) ≡ walk_with (turned_walk (y ∷ later))
        (turned_walk walk)
    go [] is =
        absurd (let count = length_turned walk in let none =
        ap (λ (hs : List WalkHop). length hs) is in omega arith)
    go (x ∷ back) is = turned_joined_at walk back later x y some is (ap first_as (sym is) ∙ same)

left_twice : (p q : ℕ) (hops : List WalkHop) → left_by q (left_by p hops) ≡ left_by q hops
left_twice p q [] = refl
left_twice p q (h ∷ []) = refl
left_twice p q (h ∷ g ∷ []) = refl
left_twice p q (h ∷ g ∷ f ∷ later) =
    ap (λ (hs : List WalkHop). h ∷ hs) (left_twice p q (g ∷ f ∷ later))

joined_assoc : (a b c : List WalkHop) → 0 < length a → 0 < length b
    → walk_with a (walk_with b c) ≡ walk_with (walk_with a b) c
joined_assoc a b [] some_a some_b = refl
joined_assoc a [] (z ∷ c) some_a some_b = absurd (omega arith)
joined_assoc a (y ∷ []) (z ∷ c) some_a some_b =
    let count = length_left_by y.egress a in
    let none = append-nil (left_by y.egress a) in
    let still : 0 < length (left_by y.egress a) = omega arith in
    ap (λ (hs : List WalkHop). hs ++ c) (met_some a (record y { egress = z.egress }) some_a)
    ∙ ap (λ (hs : List WalkHop). hs ++ c) (sym (left_twice y.egress z.egress a))
    ∙ ap (λ (hs : List WalkHop). hs ++ c) (sym (met_some (left_by y.egress a) z still))
    ∙ ap (λ (hs : List WalkHop). with_meeting_hop hs z ++ c) (sym none)
    ∙ ap (λ (hs : List WalkHop). with_meeting_hop (hs ++ []) z ++ c) (sym (met_some a y some_a))
joined_assoc a (y ∷ w ∷ b) (z ∷ c) some_a some_b =
    let count = length_left_by y.egress a in
    let front = left_by y.egress a in
    let more = length-append front (w ∷ b) in
    let still : 0 < length (front ++ w ∷ b) = omega arith in
    ap (λ (hs : List WalkHop). hs ++ (left_by z.egress (w ∷ b) ++ c)) (met_some a y some_a)
    ∙ sym (append_assoc front (left_by z.egress (w ∷ b)) c)
    ∙ ap (λ (hs : List WalkHop). hs ++ c) (sym (left_append z.egress front w b))
    ∙ ap (λ (hs : List WalkHop). hs ++ c) (sym (met_some (front ++ w ∷ b) z still))
    ∙ ap (λ (hs : List WalkHop). with_meeting_hop (hs ++ w ∷ b) z ++ c) (sym (met_some a y some_a))

-- ---- the walk

first_hops : (piece : PieceValue) → first_as (hops_of piece) ≡ begins_in piece
unfolding hops_of begins_in hop_of
first_hops piece = go (travelled_entries piece)
  where
    go : (entries : List Entry) → first_as (map (hop_of piece.along) entries) ≡ as_at entries 0
    go [] = refl
    go (entry ∷ entries) = refl

some_hops : (piece : PieceValue) → IsLong piece → 0 < length (hops_of piece)
some_hops piece long = let count = length_hops_of piece in omega arith

-- where one piece ends and the next begins
adjoin : (piece next : PieceValue) → ends_in piece ≡ begins_in next
    → first_as (turned_walk (hops_of piece)) ≡ first_as (hops_of next)
adjoin piece next meet = ap first_as (sym (hops_turned piece)) ∙ first_hops (turned_piece piece)
    ∙ begins_turned piece ∙ meet ∙ sym (first_hops next)

abbrev over : List (List WalkHop) → List WalkHop
over hops = left_by 0 (entered_by 0 (fold walk_with [] hops))

-- the walk of the pieces of the way back
pub walk_turned : (pieces : List PieceValue) → length pieces ≤ 3 → AllByRecursion IsLong pieces
    → DoMeet pieces → walk_of (turned_pieces pieces) ≡ turned_walk (walk_of pieces)
unfolding walk_of
walk_turned [] three long meet = refl
walk_turned (a ∷ []) three long meet =
    let x = hops_of a in
    ap (λ (hs : List WalkHop). over (hs ∷ [])) (hops_turned a)
    ∙ ap (λ (hs : List WalkHop). left_by 0 (entered_by 0 hs)) (joined_none (turned_walk x))
    ∙ sym (ap (λ (hs : List WalkHop). turned_walk (left_by 0 (entered_by 0 hs))) (joined_none x)
    ∙ turned_ends x)
walk_turned (a ∷ b ∷ []) three long meet =
    let x = hops_of a in
    let y = hops_of b in
    let both = turned_joined x y (some_hops a long.0) (some_hops b long.1.0) (adjoin a b meet.0) in
    ap (λ (hs : List WalkHop). over (hs ∷ hops_of (turned_piece a) ∷ [])) (hops_turned b)
    ∙ ap (λ (hs : List WalkHop). over (turned_walk y ∷ hs ∷ [])) (hops_turned a)
    ∙ ap (λ (hs : List WalkHop). left_by 0 (entered_by 0 (walk_with hs (turned_walk x))))
    (joined_none (turned_walk y))
    ∙ sym (ap (λ (hs : List WalkHop). turned_walk (left_by 0 (entered_by 0 (walk_with hs y))))
    (joined_none x) ∙ turned_ends (walk_with x y)
    ∙ ap (λ (hs : List WalkHop). left_by 0 (entered_by 0 hs)) both)
walk_turned (a ∷ b ∷ c ∷ []) three long meet =
    let x = hops_of a in
    let y = hops_of b in
    let z = hops_of c in
    let some_x = some_hops a long.0 in
    let some_y = some_hops b long.1.0 in
    let some_z = some_hops c long.1.1.0 in
    let count_y = length_turned y in
    let count_z = length_turned z in
    let some_ty : 0 < length (turned_walk y) = omega arith in
    let some_tz : 0 < length (turned_walk z) = omega arith in
    let two = turned_joined x y some_x some_y (adjoin a b meet.0) in
    let seam : first_as (turned_walk (walk_with x y)) ≡ first_as z = ap first_as two
    ∙ first_joined (turned_walk y) (turned_walk x) some_ty ∙ adjoin b c meet.1.0 in
    let three_joined = turned_joined (walk_with x y) z (some_joined x y some_x) some_z seam in
    let whole : turned_walk (walk_with (walk_with x y) z) ≡ walk_with
    (walk_with (turned_walk z) (turned_walk y)) (turned_walk x) =
    three_joined ∙ ap (walk_with (turned_walk z)) two
    ∙ joined_assoc (turned_walk z) (turned_walk y) (turned_walk x) some_tz some_ty in
    ap (λ (hs : List WalkHop). over (hs ∷ hops_of (turned_piece b) ∷ hops_of (turned_piece a) ∷ []))
    (hops_turned c)
    ∙ ap (λ (hs : List WalkHop). over (turned_walk z ∷ hs ∷ hops_of (turned_piece a) ∷ []))
    (hops_turned b)
    ∙ ap (λ (hs : List WalkHop). over (turned_walk z ∷ turned_walk y ∷ hs ∷ [])) (hops_turned a)
    ∙ ap (λ (hs : List WalkHop). left_by 0
    (entered_by 0 (walk_with (walk_with hs (turned_walk y)) (turned_walk x))))
    (joined_none (turned_walk z))
    ∙ sym (ap
    (λ (hs : List WalkHop). turned_walk (left_by 0 (entered_by 0 (walk_with (walk_with hs y) z))))
    (joined_none x) ∙ turned_ends (walk_with (walk_with x y) z)
    ∙ ap (λ (hs : List WalkHop). left_by 0 (entered_by 0 hs)) whole)
walk_turned (a ∷ b ∷ c ∷ d ∷ more) three long meet = absurd (omega arith)

-- ---- no AS twice

there_turned : (hops : List WalkHop) (k : ℕ) (one : WalkHop)
    → slice_get (turned_walk hops) k ≡ Some one
    → (hop : WalkHop)
    × ((slice_get hops (length hops - 1 - k) ≡ Some hop)
    × ((hop.ia ≡ one.ia) × (k < length hops)))
there_turned hops k one there =
    let ts = map turned_hop hops in
    let count = length-reverse ts in
    let long = length-map hops turned_hop in
    let within = slice_get_within (turned_walk hops) k one there in
    let inside : k < length ts = omega arith in
    let other : length ts - 1 - k < length ts = omega arith in
    let place : length ts - 1 - k ≡ length hops - 1 - k = omega arith in
    let read : get_or ts (length ts - 1 - k) one ≡ one = sym (get_or-reverse ts k one inside)
    ∙ get_or_from_slice_get (turned_walk hops) k one one there in
    let at : slice_get ts (length hops - 1 - k) ≡ Some one = ap (slice_get ts) (sym place)
    ∙ slice_get-get_or ts (length ts - 1 - k) one other ∙ ap Some read in
    let found =
    back_from (slice_get hops (length hops - 1 - k)) one
    (sym (slice_get-map turned_hop hops (length hops - 1 - k)) ∙ at) in
    let below : k < length hops = omega arith in
    (found.0, (found.1.0, (found.1.1, below)))
  where
    back_from : (o : Option WalkHop) (one : WalkHop) → option_map turned_hop o ≡ Some one
        → (hop : WalkHop) × ((o ≡ Some hop) × (hop.ia ≡ one.ia))
    back_from None one e = absurd cc
    back_from (Some hop) one e =
        (hop, (refl, ap (λ (h : WalkHop). h.ia) (same_Some (turned_hop hop) one e)))

pub once_turned : (hops : List WalkHop) → NamesOnce hops → NamesOnce (turned_walk hops)
once_turned hops once j k one other at_j at_k same =
    let a = there_turned hops j one at_j in
    let b = there_turned hops k other at_k in
    let is : length hops - 1 - j ≡ length hops - 1 - k =
    once (length hops - 1 - j) (length hops - 1 - k) a.0 b.0 a.1.0 b.1.0
    (a.1.1.0 ∙ same ∙ sym b.1.1.0) in
    let below_j : j < length hops = a.1.1.1 in
    let below_k : k < length hops = b.1.1.1 in
    omega arith
