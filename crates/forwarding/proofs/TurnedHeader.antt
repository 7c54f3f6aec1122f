-- The header of a packet that has come through all its pieces, reversed, is that of the way back.
use Rattle.std.proofs.Common.{◌≡◌, ℕ, ◌+◌, ◌-◌, ◌<◌, ◌≤◌, not, if◌then◌else◌, List, [], ◌∷◌, ◌++◌, length, map, refl, sym, ap, ◌∙◌, arith, inl, inr}
use Rattle.std.specs.Prelude.{reverse}
use Rattle.std.specs.List.{flat_map, AllByRecursion}
use Rattle.std.proofs.lemmas.Bool.{cases_Bool, lt-ltb}
use Rattle.std.proofs.lemmas.Grind.{flat_map-append}
use Rattle.std.proofs.lemmas.List.{reverse-append, length-map, length-reverse, map-append, append-nil}
use Rattle.path_segment.specs.Chain.{beta_of}
use Rattle.path_header.specs.declared.fields.InfoField.{InfoField}
use Rattle.path_header.specs.declared.fields.HopField.{HopField}
use Rattle.path_header.specs.Value.{lens_from}
use Rattle.path_header.specs.Reversal.{turned_info, reversed_lens, reversed_header}
use Rattle.path_segment.specs.declared.entry.Entry.{Entry}
use Rattle.path_verifier.specs.Piece.{PieceValue, HasRange, travelled_entries}
use Rattle.path_verifier.proofs.Turned.{travelled_turned, fields_turned}
use Rattle.path_verifier.specs.Header.{info_with, fields_of, len_of, info_of, total_hops, header_of}
use Rattle.path_verifier.proofs.Entries.{length_travelled}
use Rattle.forwarding.specs.PathPosition.{place_of, info_left}
use Rattle.path_verifier.specs.Turned.{turned_piece, turned_pieces}
use Rattle.forwarding.specs.Turned.{header_behind}
use Rattle.forwarding.proofs.Reading.{length_fields}
use Rattle.forwarding.proofs.Places.{IsLong}
use Rattle.forwarding.proofs.Behind.{lens_of, header_like}

-- ---- lists from the last element to the first

reverse_cons : {A : Type 0} (x : A) (xs : List A) → reverse (x ∷ xs) ≡ reverse xs ++ x ∷ []
reverse_cons x xs = reverse-append (x ∷ []) xs

map_back : {A B : Type 0} (f : A → B) (xs : List A) → map f (reverse xs) ≡ reverse (map f xs)
map_back f [] = refl
map_back {A} {B} f (x ∷ xs) =
    ap (λ (ys : List A). map f ys) (reverse_cons x xs) ∙ map-append f (reverse xs) (x ∷ [])
    ∙ ap (λ (ys : List B). ys ++ f x ∷ []) (map_back f xs) ∙ sym (reverse_cons (f x) (map f xs))

len_turned : (piece : PieceValue) → len_of (turned_piece piece) ≡ len_of piece
len_turned piece =
    ap (λ (es : List Entry). length es) (travelled_turned piece) ∙ length-reverse (travelled_entries piece)

-- ---- the info fields

place_either : (piece : PieceValue) (i : ℕ) → piece.from + i ≡ piece.to → piece.to - i ≡ piece.from
    → place_of piece i ≡ (if not piece.along then piece.from else piece.to)
place_either piece i ahead back = elim (cases_Bool piece.along) [
  | inl forward ↦ rw forward ahead
  | inr backward ↦ rw backward back
]

-- the last entry of a piece that is travelled is the first of the way back
last_place : (piece : PieceValue) → HasRange piece
    → place_of piece (len_of piece - 1) ≡ (if not piece.along then piece.from else piece.to)
last_place piece range =
    let count = length_travelled piece range in
    let order = range.order in
    place_either piece (len_of piece - 1) (omega arith) (omega arith)

pub info_turned : (piece : PieceValue) → HasRange piece
    → turned_info (info_left piece) ≡ info_of (turned_piece piece)
info_turned piece range =
    ap (λ place. info_with (turned_piece piece) (beta_of piece.segment place))
    (last_place piece range)

infos_forward : (pieces : List PieceValue) → AllByRecursion HasRange pieces
    → map turned_info (map info_left pieces) ≡ map info_of (map turned_piece pieces)
infos_forward [] ranges = refl
infos_forward (piece ∷ pieces) ranges =
    ap (λ (x : InfoField). x ∷ map turned_info (map info_left pieces)) (info_turned piece ranges.0)
    ∙ ap (λ (xs : List InfoField). info_of (turned_piece piece) ∷ xs)
    (infos_forward pieces ranges.1)

infos_turned : (pieces : List PieceValue) → AllByRecursion HasRange pieces
    → reverse (map turned_info (map info_left pieces)) ≡ map info_of (turned_pieces pieces)
infos_turned pieces ranges = ap (λ (xs : List InfoField). reverse xs) (infos_forward pieces ranges)
    ∙ sym (map_back info_of (map turned_piece pieces))

-- ---- the hop fields

turned_pieces_cons : (piece : PieceValue) (pieces : List PieceValue)
    → turned_pieces (piece ∷ pieces) ≡ turned_pieces pieces ++ turned_piece piece ∷ []
turned_pieces_cons piece pieces = reverse_cons (turned_piece piece) (map turned_piece pieces)

hops_turned_back : (pieces : List PieceValue)
    → reverse (flat_map fields_of pieces) ≡ flat_map fields_of (turned_pieces pieces)
hops_turned_back [] = refl
hops_turned_back (piece ∷ pieces) =
    reverse-append (fields_of piece) (flat_map fields_of pieces)
    ∙ ap (λ (xs : List HopField). xs ++ reverse (fields_of piece)) (hops_turned_back pieces)
    ∙ ap (λ (xs : List HopField). flat_map fields_of (turned_pieces pieces) ++ xs)
    (sym (fields_turned piece) ∙ sym (append-nil (fields_of (turned_piece piece))))
    ∙ sym (flat_map-append fields_of (turned_pieces pieces) (turned_piece piece ∷ []))
    ∙ ap (λ (ps : List PieceValue). flat_map fields_of ps) (sym (turned_pieces_cons piece pieces))

-- ---- the lengths

lens_turned : (pieces : List PieceValue) → length pieces ≤ 3 → AllByRecursion IsLong pieces
    → reversed_lens (lens_of pieces) ≡ lens_of (turned_pieces pieces)
lens_turned [] three long = refl
lens_turned (a ∷ []) three long =
    let some_a : 0 < len_of a = (let l = long.0 in omega arith) in
    let is : reversed_lens (lens_of (a ∷ [])) ≡ lens_of (a ∷ []) =
    rw (lt-ltb 0 (len_of a) some_a) refl in
    is ∙ ap (λ n. lens_from (n ∷ [])) (sym (len_turned a))
lens_turned (a ∷ b ∷ []) three long =
    let some_a : 0 < len_of a = (let l = long.0 in omega arith) in
    let some_b : 0 < len_of b = (let l = long.1.0 in omega arith) in
    let is : reversed_lens (lens_of (a ∷ b ∷ [])) ≡ lens_of (b ∷ a ∷ []) =
    rw (lt-ltb 0 (len_of a) some_a, lt-ltb 0 (len_of b) some_b) refl in
    is ∙ ap (λ n. lens_from (n ∷ len_of a ∷ [])) (sym (len_turned b))
    ∙ ap (λ n. lens_from (len_of (turned_piece b) ∷ n ∷ [])) (sym (len_turned a))
lens_turned (a ∷ b ∷ c ∷ []) three long =
    let some_a : 0 < len_of a = (let l = long.0 in omega arith) in
    let some_b : 0 < len_of b = (let l = long.1.0 in omega arith) in
    let some_c : 0 < len_of c = (let l = long.1.1.0 in omega arith) in
    let is : reversed_lens (lens_of (a ∷ b ∷ c ∷ [])) ≡ lens_of (c ∷ b ∷ a ∷ []) =
    rw (
      lt-ltb 0 (len_of a) some_a,
      lt-ltb 0 (len_of b) some_b,
      lt-ltb 0 (len_of c) some_c,
    ) refl in
    is ∙ ap (λ n. lens_from (n ∷ len_of b ∷ len_of a ∷ [])) (sym (len_turned c))
    ∙ ap (λ n. lens_from (len_of (turned_piece c) ∷ n ∷ len_of a ∷ [])) (sym (len_turned b))
    ∙ ap (λ n. lens_from (len_of (turned_piece c) ∷ len_of (turned_piece b) ∷ n ∷ []))
    (sym (len_turned a))
lens_turned (a ∷ b ∷ c ∷ d ∷ more) three long = absurd (omega arith)

-- ---- together

-- the header that a packet has at the end of its path, reversed, is the header of the way back
pub header_back : (pieces : List PieceValue) → length pieces ≤ 3 → AllByRecursion IsLong pieces
    → AllByRecursion HasRange pieces
    → reversed_header (header_behind pieces) ≡ header_of (turned_pieces pieces)
unfolding header_behind header_of
header_back pieces three long ranges =
    let infos = length-map pieces info_left in
    let hops : length (flat_map fields_of pieces) ≡ total_hops pieces = length_fields pieces in
    header_like _ 0 _ 0 _ (lens_of (turned_pieces pieces)) _ (map info_of (turned_pieces pieces)) _
    (flat_map fields_of (turned_pieces pieces))
    (omega arith) (omega arith) (lens_turned pieces three long) (infos_turned pieces ranges)
    (hops_turned_back pieces)
