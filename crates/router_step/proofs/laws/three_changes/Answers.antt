use Rattle.router_step.specs.declared.outcome.Outcome.TheVariants.{ToRouter}
use Rattle.router_step.proofs.StepLaws.{new_header, at_the_end}
use Rattle.router_step.proofs.laws.three_changes.Goals as goal

pub returns-clause-all : goal.returns-clause-all
returns-clause-all c = new_header

pub returns-clause-to_router : goal.returns-clause-to_router
returns-clause-to_router c at router = new_header at (ToRouter router)

pub returns-clause-delivered : goal.returns-clause-delivered
returns-clause-delivered c = at_the_end
