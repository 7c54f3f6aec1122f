use Rattle.std.proofs.Common.{arith, rules}
use Rattle.path_segment.proofs.Again.{entry_again}
use Rattle.path_segment.proofs.writing.entry_value.Goals as goal

pub returns-clause-again : goal.returns-clause-again
returns-clause-again c =
    entry_again c.args.entry.now (search rules) (search rules) (omega arith) (omega arith) (omega arith)
