use Rattle.scion_packet.proofs.InParts.{all_on, all_framed}
use Rattle.scion_packet.proofs.laws.packets_go_as_their_frames.Goals as goal

pub returns-clause-frames : goal.returns-clause-frames
returns-clause-frames c = all_framed

pub returns-clause-stays : goal.returns-clause-stays
returns-clause-stays c = all_on
