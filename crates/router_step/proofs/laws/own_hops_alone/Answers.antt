use Rattle.router_step.proofs.StepLaws.{own_here, own_beyond}
use Rattle.router_step.proofs.laws.own_hops_alone.Goals as goal

pub returns-clause-here : goal.returns-clause-here
returns-clause-here c = own_here c.authentic_by_test.ensures

pub returns-clause-beyond : goal.returns-clause-beyond
returns-clause-beyond c = own_beyond c.authentic_by_test.ensures
