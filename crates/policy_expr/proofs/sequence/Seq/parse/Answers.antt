use Rattle.policy_expr.proofs.Refusing.{found_from, only_from, refused_from}
use Rattle.policy_expr.proofs.sequence.Seq.parse.Goals as goal

pub returns-clause-found : goal.returns-clause-found
returns-clause-found g c = found_from c.args.text.now c.read.result c.read.ensures

pub returns-clause-only : goal.returns-clause-only
returns-clause-only g c = only_from c.args.text.now c.read.result c.read.ensures

pub returns-clause-refused : goal.returns-clause-refused
returns-clause-refused g c = refused_from c.args.text.now c.read.result c.read.ensures
