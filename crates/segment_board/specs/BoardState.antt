-- The state of a board.
use Rattle.std.specs.Prelude.{List}
use Rattle.path_segment.specs.Chain.{Chain}
use Rattle.segment_board.specs.History.{KnownHistory}

-- a store, and the part of the board's history to which it belongs
pub record BoardValue : Type 0 where
  pub store : List Chain
  pub front : KnownHistory
