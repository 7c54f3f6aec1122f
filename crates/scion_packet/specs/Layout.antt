-- The layout of a whole packet: common header, address header, path header, payload
-- (draft-dekater-scion-dataplane, the SCION header).
use Rattle.std.specs.Prelude.{ℕ, ◌+◌, ◌*◌, ◌/◌, ◌%◌, List, [], ◌∷◌, ◌++◌, take, drop, slice_index}
use Rattle.std.specs.Int.{w16, from_be_bytes}

-- the length of the destination host's address: two bits in byte 9 tell it, in units of 4 bytes
abbrev pub destination_host_len : List ℕ → ℕ
destination_host_len packet = 4 + 4 * (slice_index packet 9 / 16 % 4)

-- the length of the source host's address
abbrev pub source_host_len : List ℕ → ℕ
source_host_len packet = 4 + 4 * (slice_index packet 9 % 4)

-- where the path header begins: behind the common header, 12 bytes, the addresses of both ASes, 16,
-- and those of both hosts
abbrev pub path_place : List ℕ → ℕ
path_place packet = 28 + destination_host_len packet + source_host_len packet

-- the length of all headers that the packet announces
abbrev pub announced_len : List ℕ → ℕ
announced_len packet = 4 * slice_index packet 5

-- the number of bytes of payload that the packet announces
abbrev pub announced_payload : List ℕ → ℕ
announced_payload packet =
    from_be_bytes w16 (slice_index packet 6 ∷ slice_index packet 7 ∷ [])

-- the addresses of both ASes, destination and source
abbrev pub addresses_of : List ℕ → List ℕ
addresses_of packet = take 16 (drop 12 packet)

-- the packet as a router's step sees it: the addresses of both ASes, the path header, the payload
abbrev pub frame_in : List ℕ → List ℕ
frame_in packet = addresses_of packet ++ drop (path_place packet) packet
