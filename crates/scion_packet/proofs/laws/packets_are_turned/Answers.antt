use Rattle.scion_packet.proofs.InParts.{read_whole, frame_whole, turned_whole, as_frame, stays}
use Rattle.scion_packet.proofs.laws.packets_are_turned.Goals as goal

pub returns-clause-read : goal.returns-clause-read
returns-clause-read c = read_whole

pub returns-clause-frame : goal.returns-clause-frame
returns-clause-frame c = frame_whole

pub returns-clause-turned : goal.returns-clause-turned
returns-clause-turned c = turned_whole

pub returns-clause-as_frame : goal.returns-clause-as_frame
returns-clause-as_frame c = as_frame

pub returns-clause-stays : goal.returns-clause-stays
returns-clause-stays c = stays
