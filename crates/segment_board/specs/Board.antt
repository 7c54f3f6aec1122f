-- A board of path segments as its writer and its readers see it: through the operations on a path
-- store that were published.
use Rattle.std.specs.Prelude.{◌≡◌, ℕ, List}
use Rattle.logbook.specs.Pages.{Book}
use Rattle.refusal.specs.declared.fault.OrMemory.{OrMemory}
use Rattle.refusal.specs.declared.fault.OrMemory.TheVariants.{Memory, Refused}
use Rattle.path_server.specs.declared.op.StoreOp.{StoreOp}
use Rattle.segment_board.specs.declared.fault.BoardFault.{BoardFault}
use Rattle.segment_board.specs.declared.fault.BoardFault.TheVariants.{NoEntry}

-- the knowledge that is passed to a reader: the board, and operations that were published there
pub record KnownOperations : Type 0 where
  pub board : Book
  pub seen : List StoreOp

-- a reader: its board, the published operations that it has seen, those of which it was told last,
-- if they were new to it, and those that it found when it entered last
pub record Informed : Type 0 where
  pub board : Book
  pub seen : List StoreOp
  pub told : List StoreOp
  pub found : List StoreOp

-- the writer: its board, the number of editions published there, the operations published with the
-- newest of them, and the operations that are pending
pub record Written : Type 0 where
  pub board : Book
  pub edition : ℕ
  pub published : List StoreOp
  pub pending : List StoreOp

-- the error of a lookup: the reader could not enter, or found less than it had seen, and has seen
-- nothing more; or memory ran out once it had entered, and it has seen what it found
abbrev pub GivesNothing : (fault : OrMemory BoardFault) (before after : Informed) → Type 0
GivesNothing Memory before after = after.found ≡ after.seen
GivesNothing (Refused fault) before after =
    (fault ≡ NoEntry) × (after ≡ record before { found = after.found })
