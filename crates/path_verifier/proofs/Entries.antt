-- The entries of a piece, by their places.
use Rattle.std.proofs.Common.{◌≡◌, ℕ, ◌+◌, ◌-◌, ◌≤◌, Bool, true, false, List, length, take, drop, refl, sym, ap, ◌∙◌, arith, length-take, length-drop}
use Rattle.std.proofs.lemmas.List.{drop-take, length-reverse}
use Rattle.path_segment.specs.declared.entry.Entry.{Entry}
use Rattle.path_segment.specs.Chain.{between}
use Rattle.path_verifier.specs.Piece.{PieceValue, HasRange, entries_of, in_order, travelled_entries}

-- what is cut from one place to behind another is what lies between both
pub take_between : (a b : ℕ) (entries : List Entry) → a ≤ b → take (b + 1 - a) (drop a entries) ≡ between a b entries
take_between a b entries order =
    let behind : a + (b + 1 - a) ≡ b + 1 = omega arith in
    sym (drop-take a (b + 1 - a) entries) ∙ ap (λ n. drop a (take n entries)) behind

pub length-entries_of : (piece : PieceValue) → HasRange piece → length (entries_of piece) ≡ piece.to + 1 - piece.from
length-entries_of piece range = simp (length-drop, length-take) (omega arith)

length-in_order : (along : Bool) (entries : List Entry) → length (in_order along entries) ≡ length entries
length-in_order true entries = refl
length-in_order false entries = length-reverse entries

pub length_travelled : (piece : PieceValue) → HasRange piece
    → length (travelled_entries piece) ≡ piece.to + 1 - piece.from
length_travelled piece range = length-in_order piece.along (entries_of piece) ∙ length-entries_of piece range
