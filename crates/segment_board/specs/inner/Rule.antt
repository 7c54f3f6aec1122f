-- What the rule of a board says: its state is tied to its history, which continues what each
-- thread saw.
use Rattle.std.specs.Prelude.{◌≡◌, ℕ, Option, None, Some, IfSome, List, [], ◌∷◌}
use mathlib.Core.Option.{some}
use lib.ListN.{get_elem?}
use Rattle.segment_board.specs.History.{KnownHistory, opening}
use Rattle.segment_board.specs.inner.History.{ContinuesFrom}
use Rattle.segment_board.specs.BoardState.{BoardValue}
use Rattle.segment_board.specs.inner.BoardState.{IsTied}

-- the same board with only the opening edition known
abbrev pub opening_only : KnownHistory → KnownHistory
opening_only x = record x { log = opening ∷ [] }

-- the view of a reader that is new at the board
abbrev pub begun_as : Option KnownHistory → Option KnownHistory
begun_as None = None
begun_as (Some x) = Some (opening_only x)

-- the board's history continues what a thread saw there, if it saw anything
abbrev pub FitsView : BoardValue → Option KnownHistory → Type 0
FitsView x v = IfSome v (λ (y : KnownHistory). ContinuesFrom y x.front)

-- the board's state is tied to its history; the history begins with the opening edition, and
-- continues what each thread saw
pub record KeepsViews (x : BoardValue) (views : List (Option KnownHistory)) : Type 0 where
  pub tied : IsTied x
  pub begins : ContinuesFrom (opening_only x.front) x.front
  pub fits : (seat : ℕ) (v : Option KnownHistory) → get_elem? views seat ≡ some v → FitsView x v
