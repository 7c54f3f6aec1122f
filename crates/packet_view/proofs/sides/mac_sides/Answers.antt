-- By the values of the parts.
use Rattle.packet_view.proofs.Parts.{mac_parts}
use Rattle.packet_view.proofs.sides.mac_sides.Goals as goal

pub returns : goal.returns
returns c =
    mac_parts c.args.number c.args.at.now.view c.args.info.now c.args.hop.now _ _ _ c.from.ensures c.right_mac.ensures c.before_part.ensures
