-- The half second at which a path expires: the earliest expiry of its hops.
use Rattle.std.specs.Prelude.{ℕ, List, [], ◌∷◌, map, min}
use Rattle.hop_mac.specs.Lifetime.{expiry_of}
use Rattle.path_verifier.specs.Piece.{PieceValue, entries_of}

-- the least of these numbers, or 0 if there are none
abbrev pub least_of : List ℕ → ℕ
least_of [] = 0
least_of (number ∷ []) = number
least_of (number ∷ next ∷ later) = min number (least_of (next ∷ later))

-- the half second at which the first hop of a piece expires
abbrev pub piece_expiry : PieceValue → ℕ
piece_expiry piece =
    least_of (map (λ entry. expiry_of piece.segment.timestamp entry.exp_time) (entries_of piece))

-- the half second at which the first hop of the pieces expires
unfoldable pub path_expiry : List PieceValue → ℕ
path_expiry pieces = least_of (map piece_expiry pieces)
