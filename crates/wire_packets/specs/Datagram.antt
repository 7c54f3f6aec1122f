-- A datagram on the wire, and its bytes: Ethernet, IPv4, UDP, and a whole packet. Each AS has a
-- network 10.H.L.0/24, where H and L are the high and the low byte of its place in the topology;
-- router number N has the address N + 1 there, and the hosts of the AS have 100.
use Rattle.std.specs.Prelude.{ℕ, ◌+◌, ◌-◌, ◌*◌, ◌/◌, ◌%◌, List, [], ◌∷◌, ◌++◌, length, Result, Ok, Err}
use Rattle.std.specs.Int.{w16, to_be_bytes}
use Rattle.scion_topology.specs.declared.network.AsInfo.{AsInfo}
use Rattle.scion_topology.specs.declared.fault.TopologyFault.{TopologyFault}
use Rattle.scion_topology.specs.Network.{Network}
use Rattle.scion_topology.specs.Topology.{info_in}
use Rattle.scion_packet.specs.declared.fault.PacketFault.{PacketFault}
use Rattle.scion_packet.specs.Value.{WholePacketValue}
use Rattle.wire_packets.specs.declared.station.Station.{Station}
use Rattle.wire_packets.specs.declared.file.Hop.{Hop}

-- the place of an AS, and 0 if it is none of the topology
abbrev pub place_in : Result AsInfo TopologyFault → ℕ
place_in (Ok info) = info.position
place_in (Err fault) = 0

abbrev pub router_station : Network → (ia router : ℕ) → Station
router_station n ia router =
    record { place = place_in (info_in n ia); number = (router + 1) % 256 }

abbrev pub hosts_station : Network → (ia : ℕ) → Station
hosts_station n ia = record { place = place_in (info_in n ia); number = 100 }

-- a datagram: when it is sent, by whom and to whom, and the whole packet in it
pub record Datagram : Type 0 where
  pub hop : Hop
  pub packet : WholePacketValue

abbrev pub hop_between : (moment : ℕ) (from to : Station) → Hop
hop_between moment from to = record { moment = moment; from = from; to = to }

-- the datagram of a packet on this way; where there is no packet, there is none
abbrev pub sent_as : Hop → Result WholePacketValue PacketFault → List Datagram
sent_as hop (Ok packet) = record { hop = hop; packet = packet } ∷ []
sent_as hop (Err fault) = []

-- ---- addresses

-- the address of IPv4
abbrev pub ip_address : Station → List ℕ
ip_address s = 10 ∷ (s.place / 256 % 256) ∷ (s.place % 256) ∷ s.number ∷ []

-- the address of Ethernet, administered locally
abbrev pub mac_address : Station → List ℕ
mac_address s = 2 ∷ 0 ∷ ip_address s

-- ---- IPv4

-- the sum of the two words of an address
abbrev pub address_sum : Station → ℕ
address_sum s = 256 * (10 + s.place % 256) + s.place / 256 % 256 + s.number

-- the sum of the words of a header of IPv4 for so many bytes of UDP, but its checksum
abbrev pub header_sum : (from to : Station) (len : ℕ) → ℕ
header_sum from to len =
    17664 + (20 + len) % 65536 + 16384 + 16401 + address_sum from + address_sum to

-- the complement of that sum in ones' complement (RFC 1071)
abbrev pub header_checksum : (from to : Station) (len : ℕ) → ℕ
header_checksum from to len = (65535 - header_sum from to len % 65535) % 65535

-- version 4, five words; length; no fragments; 64 hops left, UDP
unfoldable pub ipv4_front : (len : ℕ) → List ℕ
ipv4_front len =
    69 ∷ 0 ∷ (to_be_bytes w16 ((20 + len) % 65536) ++ (0 ∷ 0 ∷ 64 ∷ 0 ∷ 64 ∷ 17 ∷ []))

-- the checksum; both addresses
unfoldable pub ipv4_ends : (from to : Station) (len : ℕ) → List ℕ
ipv4_ends from to len =
    to_be_bytes w16 (header_checksum from to len) ++ (ip_address from ++ ip_address to)

-- ---- UDP and Ethernet

-- port 50,000 at both ends; the length; no checksum
unfoldable pub udp_header : (len : ℕ) → List ℕ
udp_header len = 195 ∷ 80 ∷ 195 ∷ 80 ∷ (to_be_bytes w16 (len % 65536) ++ (0 ∷ 0 ∷ []))

-- a packet of IPv4 with these bytes in a datagram
unfoldable pub ip_packet : (from to : Station) (packet : List ℕ) → List ℕ
ip_packet from to packet =
    let len = 8 + length packet in
    (ipv4_front len ++ ipv4_ends from to len) ++ (udp_header len ++ packet)

-- to whom, from whom; IPv4
unfoldable pub ethernet_header : (from to : Station) → List ℕ
ethernet_header from to = mac_address to ++ (mac_address from ++ (8 ∷ 0 ∷ []))

-- a frame of Ethernet with these bytes in a datagram
unfoldable pub ethernet_frame : (from to : Station) (packet : List ℕ) → List ℕ
ethernet_frame from to packet = ethernet_header from to ++ ip_packet from to packet
