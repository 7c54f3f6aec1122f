-- Reading a whole packet from left to right, up to the first refusal.
use Rattle.std.specs.Prelude.{ℕ, ◌+◌, ◌/◌, ◌%◌, ◌^◌, not, ◌==◌, List, [], ◌∷◌, length, take, drop, slice_index, nat_lt, if◌then◌else◌, Result, Ok, Err}
use Rattle.std.specs.Int.{w16, w64, from_be_bytes}
use Rattle.refusal.specs.Refusal.{◌>>=◌, check, refused_as}
use Rattle.path_header.specs.Value.{HeaderValue, header_len}
use Rattle.path_header.specs.Reading.{word_at, header_at}
use Rattle.scion_packet.specs.declared.fault.PacketFault.{PacketFault}
use Rattle.scion_packet.specs.declared.fault.PacketFault.TheVariants.{ShortPacket, BadVersion, BadPathType, BadHeader, BadHeaderLength, BadPayloadLength}
use Rattle.scion_packet.specs.Value.{PacketInfoValue, WholePacketValue}
use Rattle.scion_packet.specs.Layout.{destination_host_len, source_host_len, path_place, announced_len, announced_payload}

-- where the path header begins, or the first refusal of the common and the address header
unfoldable pub path_place_in : List ℕ → Result ℕ PacketFault
path_place_in packet = if nat_lt (length packet) 12 then Err ShortPacket  -- 1
    else if nat_lt 15 (slice_index packet 0) then Err BadVersion  -- 2
    else if not (slice_index packet 8 == 1) then Err BadPathType  -- 3
    else if nat_lt (length packet) (path_place packet) then Err ShortPacket  -- 4
    else Ok (path_place packet)

-- goes on if the announced lengths are right for headers that end here
abbrev pub check_lengths : (packet : List ℕ) (end : ℕ) → Result (Unit {0}) PacketFault
check_lengths packet end = do
  _ ← check (announced_len packet == end) BadHeaderLength  -- 6
  check (end + announced_payload packet == length packet) BadPayloadLength  -- 7

-- the path header, or the first refusal of all headers
unfoldable pub path_header_in : List ℕ → Result HeaderValue PacketFault
path_header_in packet = do
  place ← path_place_in packet  -- 1 to 4
  header ← refused_as BadHeader (header_at (drop place packet))  -- 5
  _ ← check_lengths packet (place + header_len header)  -- 6, 7
  Ok header

-- what the packet says besides the addresses of its ASes, its path header and its payload
abbrev pub packet_info_in : List ℕ → PacketInfoValue
packet_info_in packet = record {
  traffic_class = word_at packet / 2 ^ 20;
  flow_id = word_at packet % 2 ^ 20;
  next_header = slice_index packet 4;
  reserved = from_be_bytes w16 (slice_index packet 10 ∷ slice_index packet 11 ∷ []);
  destination_host = record {
    kind = slice_index packet 9 / 64;
    bytes = take (destination_host_len packet) (drop 28 packet);
  };
  source_host = record {
    kind = slice_index packet 9 / 4 % 4;
    bytes = take (source_host_len packet) (drop (28 + destination_host_len packet) packet);
  };
}

-- the packet with this path header
abbrev pub whole_packet_with : List ℕ → HeaderValue → WholePacketValue
whole_packet_with packet header = record {
  info = packet_info_in packet;
  destination = from_be_bytes w64 (take 8 (drop 12 packet));
  source = from_be_bytes w64 (take 8 (drop 20 packet));
  header = header;
  payload = drop (path_place packet + header_len header) packet;
}

-- the whole packet, or the first refusal
abbrev pub whole_packet_at : List ℕ → Result WholePacketValue PacketFault
whole_packet_at packet = do
  header ← path_header_in packet
  Ok (whole_packet_with packet header)
