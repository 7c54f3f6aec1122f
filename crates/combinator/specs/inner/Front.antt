-- The groups with which paths begin, and the pieces chosen from groups (words of private functions'
-- contracts).
use Rattle.std.specs.Prelude.{List, [], ◌∷◌}
use Rattle.path_verifier.specs.Piece.{PieceValue}
use Rattle.combinator.specs.inner.Group.{GroupValue}
use Rattle.combinator.specs.declared.front.Front.{Front}
use Rattle.combinator.specs.declared.front.Front.TheVariants as fronts
use Rattle.combinator.specs.declared.chosen.Chosen.{Chosen}
use Rattle.combinator.specs.declared.chosen.Chosen.TheVariants as choices

-- the groups of a front, in order of travel
abbrev pub groups_in : Front → List GroupValue
groups_in fronts.Zero = []
groups_in (fronts.One first) = first.now ∷ []
groups_in (fronts.Two first second) = first.now ∷ second.now ∷ []
groups_in (fronts.Three first second third) = first.now ∷ second.now ∷ third.now ∷ []

-- the chosen pieces, in order of travel
abbrev pub pieces_in : Chosen → List PieceValue
pieces_in (choices.One first) = first.now ∷ []
pieces_in (choices.Two first second) = first.now ∷ second.now ∷ []
pieces_in (choices.Three first second third) = first.now ∷ second.now ∷ third.now ∷ []
