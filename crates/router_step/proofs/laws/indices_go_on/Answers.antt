use Rattle.router_step.proofs.Continuing.{header_again, indices_again}
use Rattle.router_step.proofs.laws.indices_go_on.Goals as goal

pub returns-clause-header : goal.returns-clause-header
returns-clause-header c = header_again

pub returns-clause-indices : goal.returns-clause-indices
returns-clause-indices c = indices_again
