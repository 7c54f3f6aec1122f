-- What a whole packet says.
use Rattle.std.specs.Prelude.{◌≡◌, ℕ, ◌+◌, ◌%◌, ◌<◌, ◌≤◌, List, length}
use Rattle.path_header.specs.Value.{HeaderValue, header_len}

-- a host's address: its type, and its bytes
pub record HostAddressValue : Type 0 where
  pub kind : ℕ
  pub bytes : List ℕ

-- the type has two bits, and there are 4, 8, 12 or 16 bytes
pub record IsHostAddress (host : HostAddressValue) : Type 0 where
  pub kind : host.kind < 4
  pub least : 4 ≤ length host.bytes
  pub most : length host.bytes ≤ 16
  pub words : length host.bytes % 4 ≡ 0

-- what a packet says besides the addresses of its ASes, its path header and its payload
pub record PacketInfoValue : Type 0 where
  pub traffic_class : ℕ
  pub flow_id : ℕ
  pub next_header : ℕ
  pub reserved : ℕ
  pub destination_host : HostAddressValue
  pub source_host : HostAddressValue

-- a whole packet
pub record WholePacketValue : Type 0 where
  pub info : PacketInfoValue
  pub destination : ℕ
  pub source : ℕ
  pub header : HeaderValue
  pub payload : List ℕ

-- the length of what stands in front of the path header
abbrev pub front_len : WholePacketValue → ℕ
front_len v = 28 + length v.info.destination_host.bytes + length v.info.source_host.bytes

-- the length of all headers
abbrev pub headers_len : WholePacketValue → ℕ
headers_len v = front_len v + header_len v.header

-- the length of the packet
abbrev pub packet_len : WholePacketValue → ℕ
packet_len v = headers_len v + length v.payload
