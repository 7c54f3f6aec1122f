use Rattle.path_header.proofs.TurnedTwice.{turned_twice}
use Rattle.scion_packet.proofs.ReadWhole.{packet_like}
use Rattle.std.proofs.Common.{refl}
use Rattle.scion_packet.proofs.laws.replied_twice.Goals as goal

pub returns : goal.returns
returns c v is =
    packet_like _ v.info _ v.destination _ v.source _ v.header _ v.payload refl refl refl
    (turned_twice v.header is) refl
