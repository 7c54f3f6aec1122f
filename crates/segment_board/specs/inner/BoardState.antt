-- What operations make of the state of a board, and how it is tied to its history.
use Rattle.std.specs.Prelude.{◌≡◌, List, fold}
use Rattle.path_server.specs.Store.{after_operation, store_of}
use Rattle.segment_board.specs.History.{newest}
use Rattle.segment_board.specs.inner.History.{ContinuesFrom}
use Rattle.segment_board.specs.declared.board_state.BoardOp.{BoardOp}
use Rattle.segment_board.specs.declared.board_state.BoardOp.TheVariants.{Apply, Mark}
use Rattle.segment_board.specs.BoardState.{BoardValue}

-- the state after one operation
abbrev pub board_after : BoardValue → BoardOp → BoardValue
board_after x (Apply op) = record x { store = after_operation x.store op }
board_after x (Mark front) = record x { front = front }

-- the store is that of the operations of the newest edition
abbrev pub IsTied : BoardValue → Type 0
IsTied x = x.store ≡ store_of (newest x.front.log).operations

-- after these operations the state is tied to its history, which continues the history before
abbrev pub IsReady : BoardValue → List BoardOp → Type 0
IsReady x ops =
    IsTied (fold board_after x ops) × ContinuesFrom x.front (fold board_after x ops).front
