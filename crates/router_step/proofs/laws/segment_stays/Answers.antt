use Rattle.router_step.proofs.StepLaws.{stays}
use Rattle.router_step.proofs.laws.segment_stays.Goals as goal

pub returns : goal.returns
returns c = stays
