-- The storage of a path's pieces.
use Rattle.std.specs.Prelude.{List, [], ◌∷◌}
use Rattle.path_verifier.specs.declared.pieces.PieceSlots.{PieceSlots}
use Rattle.path_verifier.specs.declared.pieces.PieceSlots.TheVariants.{Zero, One, Two, Three}
use Rattle.path_verifier.specs.Piece.{PieceValue}

-- the stored pieces, in order of travel
abbrev pub pieces_in : PieceSlots → List PieceValue
pieces_in Zero = []
pieces_in (One first) = first ∷ []
pieces_in (Two first second) = first ∷ second ∷ []
pieces_in (Three first second third) = first ∷ second ∷ third ∷ []
