-- The text is shown, whichever the view.
use Rattle.std.proofs.Common.{◌≡◌}
use Rattle.std.specs.Prelude.{slice_get}
use Rattle.views.specs.Network.{picture_of}
use Rattle.views.specs.RunPacket.{packet_state, whole_state}
use Rattle.views.specs.Wrapped.{wrapped_line}
use Rattle.views.proofs.TextShown.{text_shown}
use Rattle.views.proofs.showing.show.Goals as goal

pub returns-in-PacketOfRun : goal.returns-in-PacketOfRun
returns-in-PacketOfRun g c =
    rw c.in-PacketOfRun.is (text_shown (λ net said. said ≡ packet_state net (slice_get net.packets c.in-PacketOfRun.number))
    c.run_packet.result c.write_run.result _ _ _ _ _ _ c.run_packet.ensures.shows
    c.write_run.ensures)

pub returns-in-WholePacketOfRun : goal.returns-in-WholePacketOfRun
returns-in-WholePacketOfRun g c =
    rw c.in-WholePacketOfRun.is (text_shown (λ net said. said ≡ whole_state c.in-WholePacketOfRun.info net
    (slice_get net.packets c.in-WholePacketOfRun.number))
    c.whole_run_packet-said.result c.write_run-in-WholePacketOfRun.result _ _ _ _ _ _ c.whole_run_packet-said.ensures.shows
    c.write_run-in-WholePacketOfRun.ensures)

pub returns-in-Wrap : goal.returns-in-Wrap
returns-in-Wrap g c =
    rw c.in-Wrap.is (text_shown (λ net said. said ≡ wrapped_line c.in-Wrap.info c.in-Wrap.number net)
    c.wrapped_packet.result c.write_run-in-Wrap.result _ _ _ _ _ _ c.wrapped_packet.ensures.shows
    c.write_run-in-Wrap.ensures)

pub returns-in-Network : goal.returns-in-Network
returns-in-Network g c =
    rw c.in-Network.is (text_shown (λ net said. said ≡ picture_of net c.in-Network.extent c.in-Network.subject)
    c.network_picture-said.result c.write_run-in-Network.result _ _ _ _ _ _ c.network_picture-said.ensures.shows
    c.write_run-in-Network.ensures)
