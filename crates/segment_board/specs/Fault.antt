-- The refusals of a board, as lines of text report them.
use Rattle.std.specs.Prelude.{ℕ, List, codes}
use Rattle.segment_board.specs.declared.fault.BoardFault.{BoardFault}
use Rattle.segment_board.specs.declared.fault.BoardFault.TheVariants.{NoPlace, NoEntry}

-- the number and the name of a refusal
abbrev pub code_and_name : BoardFault → ℕ × List ℕ
code_and_name NoPlace = (110, codes "NoPlace")
code_and_name NoEntry = (111, codes "NoEntry")
