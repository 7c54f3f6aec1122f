use Rattle.arrivals.proofs.Going.{may_arrive}
use Rattle.arrivals.proofs.laws.undisturbed_packets_may_arrive.Goals as goal

pub returns : goal.returns
returns c = may_arrive
