use Rattle.whole_packets.proofs.InRun.{history_on, history_keeps, stands_by}
use Rattle.whole_packets.proofs.laws.whole_packets_run_as_their_frames.Goals as goal

pub returns-clause-frames : goal.returns-clause-frames
returns-clause-frames c p start history one packet front payload is unlost unaltered there frame
    keeps =
    history_on p start history one packet front payload is unlost unaltered
    (stands_by p start one packet there frame) keeps

pub returns-clause-stays : goal.returns-clause-stays
returns-clause-stays c = history_keeps
