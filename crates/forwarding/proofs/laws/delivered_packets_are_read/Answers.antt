use Rattle.forwarding.proofs.Received.{received}
use Rattle.forwarding.proofs.laws.delivered_packets_are_read.Goals as goal

pub returns : goal.returns
returns c = received
