-- The one encoding of each whole packet (draft-dekater-scion-dataplane, the SCION header).
use Rattle.std.specs.Prelude.{◌≡◌, ℕ, ◌+◌, ◌-◌, ◌*◌, ◌/◌, ◌^◌, ◌<◌, List, ◌∷◌, ◌++◌, length}
use Rattle.std.specs.Int.{w16, w32, w64, to_be_bytes}
use Rattle.path_header.specs.Value.{IsHeader}
use Rattle.path_header.specs.Spelling.{FitsBits, spelling}
use Rattle.scion_packet.specs.Value.{HostAddressValue, IsHostAddress, PacketInfoValue, WholePacketValue, headers_len}

-- a host's type and length in four bits: a length of L is 4 * (L + 1) bytes
abbrev pub host_bits : HostAddressValue → ℕ
host_bits host = 4 * host.kind + (length host.bytes / 4 - 1)

-- what stands in front of the path header: version 0, traffic class, flow; next header, the length
-- of all headers in units of 4 bytes, the length of the payload; the type of a SCION path, the
-- types and lengths of the hosts' addresses, two reserved bytes; the addresses
abbrev pub front_of : WholePacketValue → List ℕ
front_of v = to_be_bytes w32 (v.info.traffic_class * 2 ^ 20 + v.info.flow_id)
    ++ (v.info.next_header ∷ headers_len v / 4 ∷ (to_be_bytes w16 (length v.payload)
    ++ (1 ∷ (16 * host_bits v.info.destination_host + host_bits v.info.source_host)
    ∷ (to_be_bytes w16 v.info.reserved
    ++ (to_be_bytes w64 v.destination ++ (to_be_bytes w64 v.source
    ++ (v.info.destination_host.bytes ++ v.info.source_host.bytes)))))))

-- a whole packet: what stands in front of the path header, that header, the payload
abbrev pub packet_spelling : WholePacketValue → List ℕ
packet_spelling v = front_of v ++ (spelling v.header ++ v.payload)

-- the numbers of a packet's information fit into their bits
pub record FitsInfo (info : PacketInfoValue) : Type 0 where
  pub traffic_class : info.traffic_class < 2 ^ 8
  pub flow_id : info.flow_id < 2 ^ 20
  pub next_header : info.next_header < 2 ^ 8
  pub reserved : info.reserved < 2 ^ 16
  pub destination_host : IsHostAddress info.destination_host
  pub source_host : IsHostAddress info.source_host

-- the numbers of a packet fit into their bits
pub record FitsPacket (v : WholePacketValue) : Type 0 where
  pub info : FitsInfo v.info
  pub destination : v.destination < 2 ^ 64
  pub source : v.source < 2 ^ 64
  pub payload : length v.payload < 2 ^ 16
  pub is_header : IsHeader v.header
  pub header_fits : FitsBits v.header

-- the grammar: the bytes are the encoding of this packet
pub record SpellsPacket (bytes : List ℕ) (v : WholePacketValue) : Type 0 where
  pub fits : FitsPacket v
  pub spelled : bytes ≡ packet_spelling v
