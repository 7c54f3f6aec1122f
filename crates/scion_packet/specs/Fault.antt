-- The refusals of whole packets, as lines of text report them.
use Rattle.std.specs.Prelude.{ℕ, List, codes}
use Rattle.path_header.specs.declared.fault.HeaderFault.TheVariants as headers
use Rattle.path_header.specs.Fault as header
use Rattle.scion_topology.specs.declared.fault.TopologyFault.TheVariants as topologies
use Rattle.scion_topology.specs.Fault as topology
use Rattle.scion_packet.specs.declared.fault.PacketFault.{PacketFault}
use Rattle.scion_packet.specs.declared.fault.PacketFault.TheVariants.{ShortPacket, BadVersion, BadPathType, BadHeader, BadHeaderLength, BadPayloadLength, BadField, PayloadTooLarge, RoomTooSmall}

-- the number and the name of a refusal
abbrev pub code_and_name : PacketFault → ℕ × List ℕ
code_and_name ShortPacket = (160, codes "ShortPacket")
code_and_name BadVersion = (161, codes "BadVersion")
code_and_name BadPathType = (162, codes "BadPathType")
code_and_name (BadHeader fault) = (90, codes "BadHeader")
code_and_name BadHeaderLength = (163, codes "BadHeaderLength")
code_and_name BadPayloadLength = (164, codes "BadPayloadLength")
code_and_name BadField = topology.code_and_name topologies.BadField
code_and_name PayloadTooLarge = (165, codes "PayloadTooLarge")
code_and_name RoomTooSmall = header.code_and_name headers.RoomTooSmall
