-- The bytes of a packet from its parts (draft-dekater-scion-dataplane).
use Rattle.std.specs.Prelude.{ℕ, ◌^◌, ◌<◌, List, ◌++◌}
use Rattle.std.specs.Int.{w64, to_be_bytes}
use Rattle.path_header.specs.Value.{HeaderValue, IsHeader}
use Rattle.path_header.specs.Spelling.{FitsBits, spelling}
use Rattle.path_verifier.specs.Piece.{PieceValue}
use Rattle.path_verifier.specs.Header.{header_of}

-- the addresses at the front of a packet, the destination first
abbrev pub addresses : (source destination : ℕ) → List ℕ
addresses source destination = to_be_bytes w64 destination ++ to_be_bytes w64 source

-- the bytes of a packet: both addresses, its path header, its payload
unfoldable pub frame_of : (src dst : ℕ) (header : HeaderValue) (payload : List ℕ) → List ℕ
frame_of src dst header payload = addresses src dst ++ (spelling header ++ payload)

-- both addresses and the numbers in the header of these pieces fit into their bits
pub record HasFrame (source destination : ℕ) (pieces : List PieceValue) : Type 0 where
  pub source_fits : source < 2 ^ 64
  pub destination_fits : destination < 2 ^ 64
  pub is_header : IsHeader (header_of pieces)
  pub fits : FitsBits (header_of pieces)
