use Rattle.forwarding.proofs.Ended.{ended_stays}
use Rattle.forwarding.proofs.laws.ended_packets_stay.Goals as goal

pub returns : goal.returns
returns c = ended_stays
