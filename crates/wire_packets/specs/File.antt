-- The bytes of a capture: a file of the format pcap, version 2.4, with times in microseconds, its
-- numbers big-endian, of frames of Ethernet.
use Rattle.std.specs.Prelude.{ℕ, ◌+◌, List, [], ◌∷◌, ◌++◌, length, flat_map}
use Rattle.std.specs.Int.{w32, to_be_bytes}
use Rattle.scion_packet.specs.Spelling.{packet_spelling}
use Rattle.wire_packets.specs.declared.file.Hop.{Hop}
use Rattle.wire_packets.specs.Datagram.{Datagram, ethernet_frame}

-- magic number a1b2c3d4; version 2.4; time zone 0 and 0; frames of up to 65,535 bytes; Ethernet
abbrev pub file_head : List ℕ
file_head = 161 ∷ 178 ∷ 195 ∷ 212 ∷ 0 ∷ 2 ∷ 0 ∷ 4 ∷ 0 ∷ 0 ∷ 0 ∷ 0 ∷ 0 ∷ 0 ∷ 0 ∷ 0
    ∷ 0 ∷ 0 ∷ 255 ∷ 255 ∷ 0 ∷ 0 ∷ 0 ∷ 1 ∷ []

-- the second, and microsecond 0
unfoldable pub file_time : (moment : ℕ) → List ℕ
file_time moment = to_be_bytes w32 moment ++ (0 ∷ 0 ∷ 0 ∷ 0 ∷ [])

-- when a frame was seen, its length, and how much of it is there: all
unfoldable pub record_head : (moment len : ℕ) → List ℕ
record_head moment len = file_time moment ++ (to_be_bytes w32 len ++ to_be_bytes w32 len)

-- the record of a frame with these bytes in a datagram, behind 14 bytes of Ethernet, 20 of IPv4 and
-- 8 of UDP
unfoldable pub file_record : (hop : Hop) (packet : List ℕ) → List ℕ
file_record hop packet =
    record_head hop.moment (42 + length packet) ++ ethernet_frame hop.from hop.to packet

-- the record of a datagram
abbrev pub datagram_record : Datagram → List ℕ
datagram_record d = file_record d.hop (packet_spelling d.packet)

-- the file of these datagrams
abbrev pub file_of : List Datagram → List ℕ
file_of datagrams = file_head ++ flat_map datagram_record datagrams
