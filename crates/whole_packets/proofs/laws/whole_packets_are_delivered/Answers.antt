use Rattle.whole_packets.proofs.InRun.{delivered_whole}
use Rattle.whole_packets.proofs.laws.whole_packets_are_delivered.Goals as goal

pub returns : goal.returns
returns c = delivered_whole
