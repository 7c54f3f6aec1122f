-- How many the turned pieces are.
use Rattle.std.proofs.Common.{◌≡◌, ◌+◌, ◌≤◌, List, [], ◌∷◌, ◌++◌, length, map, refl, ap, ◌∙◌, arith}
use Rattle.std.proofs.lemmas.List.{length-reverse, length-map}
use Rattle.std.proofs.lemmas.List.Sums.{sum_by-append, sum_by-cons}
use Rattle.path_verifier.specs.Piece.{PieceValue, HasRange}
use Rattle.path_verifier.specs.Header.{len_of, total_hops}
use Rattle.path_verifier.specs.Turned.{turned_piece, turned_pieces}
use Rattle.path_verifier.proofs.Entries.{length_travelled}
use Rattle.path_verifier.proofs.Turned.{reverse_cons, len_turned}

-- every piece has two entries at least
abbrev pub IsLong : PieceValue → Type 0
IsLong piece = 2 ≤ len_of piece

pub long_of : (piece : PieceValue) → HasRange piece → 2 ≤ len_of piece
long_of piece range = let count = length_travelled piece range in let order =
    range.order in omega arith

turned_pieces_cons : (piece : PieceValue) (pieces : List PieceValue)
    → turned_pieces (piece ∷ pieces) ≡ turned_pieces pieces ++ turned_piece piece ∷ []
turned_pieces_cons piece pieces = reverse_cons (turned_piece piece) (map turned_piece pieces)

pub count_turned : (pieces : List PieceValue) → total_hops (turned_pieces pieces) ≡ total_hops pieces
count_turned [] = refl
count_turned (piece ∷ pieces) =
    let split : total_hops (turned_pieces (piece ∷ pieces)) ≡ total_hops
    (turned_pieces pieces) + total_hops (turned_piece piece ∷ []) =
    ap total_hops (turned_pieces_cons piece pieces)
    ∙ sum_by-append len_of (turned_pieces pieces) (turned_piece piece ∷ []) in
    let one : total_hops (turned_piece piece ∷ []) ≡ len_of (turned_piece piece) + 0 =
    sum_by-cons len_of (turned_piece piece) [] in
    let same = len_turned piece in
    let rest = count_turned pieces in
    let whole = sum_by-cons len_of piece pieces in
    omega arith

pub length_turned_pieces : (pieces : List PieceValue)
    → length (turned_pieces pieces) ≡ length pieces
length_turned_pieces pieces = length-reverse (map turned_piece pieces)
    ∙ length-map pieces turned_piece
