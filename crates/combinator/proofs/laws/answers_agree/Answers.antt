use Rattle.combinator.proofs.Agreeing.{answers_agree}
use Rattle.combinator.proofs.Preferring.{options_agree}
use Rattle.combinator.proofs.laws.answers_agree.Goals as goal

pub returns-clause-paths : goal.returns-clause-paths
returns-clause-paths c = answers_agree

pub returns-clause-options : goal.returns-clause-options
returns-clause-options c = options_agree
