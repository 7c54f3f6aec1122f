use Rattle.std.proofs.Common.{◌∙◌}
use Rattle.forwarding.proofs.Journeys.{delivered_after}
use Rattle.whole_packets.proofs.Framed.{turned, after_framed, after_stays}
use Rattle.whole_packets.proofs.laws.whole_packets_go_as_their_frames.Goals as goal

pub returns-clause-turn : goal.returns-clause-turn
returns-clause-turn c = turned

pub returns-clause-after : goal.returns-clause-after
returns-clause-after c = after_framed

pub returns-clause-stays : goal.returns-clause-stays
returns-clause-stays c = after_stays

pub returns-clause-delivered : goal.returns-clause-delivered
returns-clause-delivered c n source destination sent pieces left packet front payload moments keeps
    open_way on enough =
    after_framed n moments packet front payload keeps
    ∙ delivered_after n source destination sent pieces left _ moments open_way on enough
