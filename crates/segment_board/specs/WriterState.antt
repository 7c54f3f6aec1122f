-- The state of a board's writer.
use Rattle.std.specs.Prelude.{List, [], ◌∷◌, drop}
use Rattle.path_server.specs.declared.op.StoreOp.{StoreOp}
use Rattle.segment_board.specs.declared.edition.Edition.{Edition}
use Rattle.segment_board.specs.History.{newest, edition_after}
use Rattle.segment_board.specs.BoardState.{BoardValue}
use Rattle.segment_board.specs.declared.board_state.BoardOp.{BoardOp}
use Rattle.segment_board.specs.declared.board_state.BoardOp.TheVariants.{Apply, Mark}
use Rattle.left_right.specs.declared.writer.Writer.{Writer}

-- the operations on the store among these
abbrev pub operations_of : List BoardOp → List StoreOp
operations_of [] = []
operations_of (Apply op ∷ ops) = op ∷ operations_of ops
operations_of (Mark front ∷ ops) = operations_of ops

module _ {V P A S : Type 0} {g : _} where
  abbrev pub queue_of : Writer BoardValue BoardOp V P A S g → List BoardOp
  queue_of w = drop w.behind w.log.items

  abbrev pub shown_of : Writer BoardValue BoardOp V P A S g → BoardValue
  shown_of w = w.desk.shown.value

  -- the edition that readers see now
  abbrev pub edition_of : Writer BoardValue BoardOp V P A S g → Edition
  edition_of w = newest (shown_of w).front.log

  -- the edition that is published next
  abbrev pub awaited : Writer BoardValue BoardOp V P A S g → Edition
  awaited w = edition_after (edition_of w) (operations_of (queue_of w))
