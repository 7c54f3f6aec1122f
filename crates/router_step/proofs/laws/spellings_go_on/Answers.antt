use Rattle.router_step.proofs.Continuing.{lens_again}
use Rattle.router_step.proofs.Fits.{spelled_again}
use Rattle.router_step.proofs.laws.spellings_go_on.Goals as goal

pub returns-clause-spelled : goal.returns-clause-spelled
returns-clause-spelled c = spelled_again

pub returns-clause-lens : goal.returns-clause-lens
returns-clause-lens c = lens_again
