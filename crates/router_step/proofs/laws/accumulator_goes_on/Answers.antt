use Rattle.router_step.proofs.StepLaws.{along, against}
use Rattle.router_step.proofs.Continuing.{leaving}
use Rattle.router_step.proofs.laws.accumulator_goes_on.Goals as goal

pub returns-clause-along : goal.returns-clause-along
returns-clause-along c = along

pub returns-clause-against : goal.returns-clause-against
returns-clause-against c = against c.step_undone.ensures

pub returns-clause-leaving : goal.returns-clause-leaving
returns-clause-leaving c = leaving
