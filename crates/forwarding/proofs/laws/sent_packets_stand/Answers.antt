use Rattle.forwarding.proofs.Sending.{starts}
use Rattle.forwarding.proofs.laws.sent_packets_stand.Goals as goal

pub returns : goal.returns
returns c = starts
