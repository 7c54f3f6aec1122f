use Rattle.std.proofs.Common.{arith, rules}
use Rattle.path_segment.proofs.Again.{chain_again, judged_again}
use Rattle.path_segment.proofs.writing.value_of.Goals as goal

pub returns-clause-again : goal.returns-clause-again
returns-clause-again c =
    judged_again c.args.segment.now
    (chain_again c.args.segment.now (search rules) (omega arith) (omega arith)) c.entries.ensures.kept
