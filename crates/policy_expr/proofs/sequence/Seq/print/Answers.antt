use Rattle.std.proofs.Common.{rules, subst}
use Rattle.policy_expr.specs.Printing.{IsSequence}
use Rattle.policy_expr.proofs.Sequences.{text_again}
use Rattle.policy_expr.proofs.sequence.Seq.print.Goals as goal

pub returns-clause-again : goal.returns-clause-again
returns-clause-again g c =
    text_again _ c.args.self.now (subst IsSequence c.self.view_is c.self.invariant.0) (search rules)
