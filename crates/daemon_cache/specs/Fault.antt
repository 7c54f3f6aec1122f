-- The refusals of a daemon, as lines of text report them.
use Rattle.std.specs.Prelude.{ℕ, List}
use Rattle.policy_expr.specs.Options as options
use Rattle.combinator.specs.Fault as ends
use Rattle.combinator.specs.declared.fault.CombineFault.TheVariants as end
use Rattle.segment_board.specs.Fault as boards
use Rattle.segment_board.specs.declared.fault.BoardFault.TheVariants as board
use Rattle.daemon_cache.specs.declared.fault.AskFault.{AskFault}
use Rattle.daemon_cache.specs.declared.fault.AskFault.TheVariants.{BadLimit, Options, SameAs, NoEntry}

-- the number and the name of a refusal
abbrev pub code_and_name : AskFault → ℕ × List ℕ
code_and_name BadLimit = ends.bad_limit
code_and_name (Options fault) = options.code_and_name fault
code_and_name SameAs = ends.code_and_name end.SameAs
code_and_name NoEntry = boards.code_and_name board.NoEntry
