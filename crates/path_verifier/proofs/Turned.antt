-- Pieces, and what they show, travelled the other way.
use Rattle.std.proofs.Common.{◌≡◌, ℕ, zero, suc, ◌-◌, ◌<◌, Bool, true, false, not, List, [], ◌∷◌, ◌++◌, length, get_or, map, refl, sym, ap, ◌∙◌, arith}
use Rattle.std.specs.Prelude.{reverse}
use Rattle.std.proofs.lemmas.List.{reverse-append, reverse-reverse, length-reverse, map-append, get_or-reverse}
use Rattle.path_segment.specs.declared.entry.Entry.{Entry}
use Rattle.policy_expr.specs.declared.hop.WalkHop.{WalkHop}
use Rattle.path_segment.specs.Chain.{as_at}
use Rattle.path_verifier.specs.Piece.{PieceValue, entries_of, in_order, travelled_entries, begins_in, ends_in}
use Rattle.path_verifier.specs.Walk.{hop_of, hops_of}
use Rattle.path_verifier.specs.Header.{field_of, fields_of, len_of}
use Rattle.path_verifier.specs.Turned.{turned_piece, turned_hop, turned_walk}

-- ---- lists from the last element to the first

pub reverse_cons : {A : Type 0} (x : A) (xs : List A) → reverse (x ∷ xs) ≡ reverse xs ++ x ∷ []
reverse_cons x xs = reverse-append (x ∷ []) xs

pub map_back : {A B : Type 0} (f : A → B) (xs : List A) → map f (reverse xs) ≡ reverse (map f xs)
map_back f [] = refl
map_back {A} {B} f (x ∷ xs) =
    ap (λ (ys : List A). map f ys) (reverse_cons x xs) ∙ map-append f (reverse xs) (x ∷ [])
    ∙ ap (λ (ys : List B). ys ++ f x ∷ []) (map_back f xs) ∙ sym (reverse_cons (f x) (map f xs))

-- ---- the entries of a turned piece

order_turned : (along : Bool) (entries : List Entry)
    → in_order (not along) entries ≡ reverse (in_order along entries)
order_turned true entries = refl
order_turned false entries = sym (reverse-reverse entries)

pub travelled_turned : (piece : PieceValue)
    → travelled_entries (turned_piece piece) ≡ reverse (travelled_entries piece)
travelled_turned piece = order_turned piece.along (entries_of piece)

pub len_turned : (piece : PieceValue) → len_of (turned_piece piece) ≡ len_of piece
len_turned piece = ap (λ (es : List Entry). length es) (travelled_turned piece)
    ∙ length-reverse (travelled_entries piece)

pub fields_turned : (piece : PieceValue)
    → fields_of (turned_piece piece) ≡ reverse (fields_of piece)
unfolding fields_of
fields_turned piece = ap (λ (es : List Entry). map field_of es) (travelled_turned piece)
    ∙ map_back field_of (travelled_entries piece)

-- ---- the ASes where it begins and ends

as_of : (entries : List Entry) (d : Entry) (i : ℕ) → i < length entries
    → as_at entries i ≡ (get_or entries i d).ia
as_of [] d i within = absurd (omega arith)
as_of (entry ∷ entries) d zero within = refl
as_of (entry ∷ entries) d (suc i) within = as_of entries d i (omega arith)

as_first : (entries : List Entry) → as_at (reverse entries) 0 ≡ as_at entries (length entries - 1)
as_first [] = refl
as_first (entry ∷ entries) =
    let es = entry ∷ entries in
    let count = length-reverse es in
    let some : 0 < length es = omega arith in
    as_of (reverse es) entry 0 (omega arith)
    ∙ ap (λ (e : Entry). e.ia) (get_or-reverse es 0 entry some)
    ∙ ap (λ k. (get_or es k entry).ia) (let same : length es - 1 - 0 ≡ length es - 1 =
    omega arith in same)
    ∙ sym (as_of es entry (length es - 1) (omega arith))

as_last : (entries : List Entry)
    → as_at (reverse entries) (length (reverse entries) - 1) ≡ as_at entries 0
as_last entries = sym (as_first (reverse entries))
    ∙ ap (λ (es : List Entry). as_at es 0) (reverse-reverse entries)

pub begins_turned : (piece : PieceValue) → begins_in (turned_piece piece) ≡ ends_in piece
unfolding begins_in ends_in
begins_turned piece = ap (λ (es : List Entry). as_at es 0) (travelled_turned piece)
    ∙ as_first (travelled_entries piece)

pub ends_turned : (piece : PieceValue) → ends_in (turned_piece piece) ≡ begins_in piece
unfolding begins_in ends_in
ends_turned piece = ap (λ (es : List Entry). as_at es (length es - 1)) (travelled_turned piece)
    ∙ as_last (travelled_entries piece)

-- ---- its hops

hop_turned : (along : Bool) (entry : Entry)
    → hop_of (not along) entry ≡ turned_hop (hop_of along entry)
unfolding hop_of
hop_turned true entry = refl
hop_turned false entry = refl

hops_turned_all : (along : Bool) (entries : List Entry)
    → map (hop_of (not along)) entries ≡ map turned_hop (map (hop_of along) entries)
hops_turned_all along [] = refl
hops_turned_all along (entry ∷ entries) =
    ap (λ hop. hop ∷ map (hop_of (not along)) entries) (hop_turned along entry)
    ∙ ap (λ hops. turned_hop (hop_of along entry) ∷ hops) (hops_turned_all along entries)

pub hops_turned : (piece : PieceValue) → hops_of (turned_piece piece) ≡ turned_walk (hops_of piece)
unfolding hops_of
hops_turned piece =
    ap (λ (es : List Entry). map (hop_of (not piece.along)) es) (travelled_turned piece)
    ∙ map_back (hop_of (not piece.along)) (travelled_entries piece)
    ∙ ap (λ (hs : List WalkHop). reverse hs) (hops_turned_all piece.along (travelled_entries piece))
