use Rattle.arrivals.proofs.JustSent.{sent_may_arrive}
use Rattle.arrivals.proofs.laws.sent_packets_may_arrive.Goals as goal

pub returns : goal.returns
returns c = sent_may_arrive
