-- The text about the path of a packet is shown.
use Rattle.std.specs.Prelude.{slice_get}
use Rattle.views.specs.Path.{TellsPacket}
use Rattle.views.proofs.TextShown.{text_shown}
use Rattle.views.proofs.showing.show_path.Goals as goal

pub returns-in-Packet : goal.returns-in-Packet
returns-in-Packet g c =
    rw c.in-Packet.is (text_shown (λ net. TellsPacket (slice_get net.packets c.in-Packet.number))
    c.packet_path.result c.write_run.result _ _ _ _ _ _ c.packet_path.ensures.shows c.write_run.ensures)
