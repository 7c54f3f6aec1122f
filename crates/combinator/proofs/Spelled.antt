-- The header of each path that may be sent is one of the grammar, since the numbers of its pieces
-- fit into their bits.
use Rattle.std.proofs.Common.{suc, ◌+◌, ◌≤◌, Bool, true, false, List, [], ◌∷◌, ◌++◌, length, get_or, map, reverse, take, All, Contains, refl, sym, subst, arith}
use Rattle.std.specs.List.{AllByRecursion, flat_map}
use Rattle.std.proofs.lemmas.List.Elements.{All-push, All-take, All-drop, All-append, recursion_from_All, All-from_recursion}
use Rattle.path_segment.specs.declared.entry.Entry.{Entry}
use Rattle.path_segment.specs.Chain.{between}
use Rattle.path_header.specs.Value.{HeaderValue}
use Rattle.path_header.specs.Spelling.{InfoFits, HopFits, FitsBits, SpellsHeader, spelling}
use Rattle.path_verifier.specs.Piece.{PieceValue, in_order, travelled_entries}
use Rattle.path_verifier.specs.Header.{field_of, fields_of, info_of, header_of}
use Rattle.path_verifier.proofs.Headers.{header_is_one}
use Rattle.path_verifier.proofs.Turned.{reverse_cons}
use Rattle.path_verifier.proofs.Breaches.{header_kept, path_kept}
use Rattle.combinator.specs.Candidate.{Question, AreSpelled}
use Rattle.combinator.specs.inner.Search.{HasFields, HaveAll}

all_reverse : {X : Type 0} (P : X → Type 0) (xs : List X) → All P xs → All P (reverse xs)
all_reverse P [] all = all
all_reverse P (x ∷ xs) all =
    subst (All P) (sym (reverse_cons x xs))
    (All-push P (reverse xs) x (all_reverse P xs (λ k d within. all (suc k) d (omega (arith, within)))) (all 0 x (omega arith)))

in_either : (along : Bool) (P : Entry → Type 0) (entries : List Entry) → All P entries → All P (in_order along entries)
in_either true P entries all = all
in_either false P entries all = all_reverse P entries all

fields_fit : (entries : List Entry) → All (λ (entry : Entry). HopFits (field_of entry)) entries
    → AllByRecursion HopFits (map field_of entries)
fields_fit [] all = tt
fields_fit (entry ∷ entries) all =
    (all 0 entry (omega arith), fields_fit entries (λ k d within. all (suc k) d (omega (arith, within))))

piece_fits : (piece : PieceValue) → HasFields piece → AllByRecursion HopFits (fields_of piece)
unfolding fields_of HasFields
piece_fits piece has =
    let P : Entry → Type 0 = λ entry. HopFits (field_of entry) in
    fields_fit (travelled_entries piece) (in_either piece.along P (between piece.from piece.to piece.segment.entries)
    (All-drop P piece.from (take (piece.to + 1) piece.segment.entries) (All-take P (piece.to + 1) piece.segment.entries has.1)))

infos_fit : (pieces : List PieceValue) → All HasFields pieces → AllByRecursion InfoFits (map info_of pieces)
unfolding HasFields
infos_fit [] all = tt
infos_fit (piece ∷ pieces) all =
    ((all 0 piece (omega arith)).0, infos_fit pieces (λ k d within. all (suc k) d (omega (arith, within))))

both_fit : (xs ys : _) → AllByRecursion HopFits xs → AllByRecursion HopFits ys → AllByRecursion HopFits (xs ++ ys)
both_fit xs ys first second =
    recursion_from_All HopFits (xs ++ ys)
    (All-append HopFits xs ys (All-from_recursion HopFits xs first) (All-from_recursion HopFits ys second))

hops_fit : (pieces : List PieceValue) → All HasFields pieces → AllByRecursion HopFits (flat_map fields_of pieces)
hops_fit [] all = tt
hops_fit (piece ∷ pieces) all =
    both_fit (fields_of piece) (flat_map fields_of pieces) (piece_fits piece (all 0 piece (omega arith)))
    (hops_fit pieces (λ k d within. all (suc k) d (omega (arith, within))))

fits : (pieces : List PieceValue) → All HasFields pieces → FitsBits (header_of pieces)
unfolding header_of
fits pieces all = record { infos = infos_fit pieces all; hops = hops_fit pieces all }

-- what holds of all usable pieces holds of those of a list
pub of_all : (P : PieceValue → Type 0) (usable_pieces pieces : List PieceValue) → All P usable_pieces
    → All (Contains usable_pieces) pieces → All P pieces
of_all P usable_pieces pieces all there k d within =
    let place = there k d within in
    subst P place.2 (all place.0 (get_or pieces k d) place.1)

pub all_spelled : (question : Question) (usable_pieces : List PieceValue) → HaveAll question usable_pieces
    → All HasFields usable_pieces → AreSpelled question
unfolding HasFields
all_spelled question usable_pieces whole has path is =
    let fields = of_all HasFields usable_pieces path.pieces has (whole path is) in
    let short : All (λ (piece : PieceValue). length piece.segment.entries ≤ 63) path.pieces = λ k d within. (fields k d within).2 in
    subst (λ (header : HeaderValue). SpellsHeader (spelling header) header) (sym (header_kept is.accepted))
    (record {
      is_header = header_is_one path.pieces question.src question.dst question.set.moment (path_kept is.accepted) short;
      fits = fits path.pieces fields;
      spelled = refl;
    })
