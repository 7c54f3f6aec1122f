-- The output of `scionet_view path` about a packet.
use Rattle.std.specs.Prelude.{◌≡◌, ℕ, ◌/◌, codes, List, [], ◌++◌, length, Option, Some, None, slice_get, Result, Ok, Err}
use Rattle.std.specs.Fmt.{decimal}
use Rattle.isd_as.specs.Address.{canonical}
use Rattle.path_verifier.specs.declared.kind.PieceKind.{PieceKind}
use Rattle.path_verifier.specs.declared.kind.PieceKind.TheVariants.{Up, Core, Down}
use Rattle.path_verifier.specs.Piece.{PieceValue, kind_of, begins_in, ends_in}
use Rattle.path_verifier.specs.Walk.{walk_of}
use Rattle.path_verifier.specs.Accepted.{IsExpiry}
use Rattle.network_core.specs.declared.fault.EventFault.{EventFault}
use Rattle.network_core.specs.declared.fault.EventFault.TheVariants.{NoPacket}
use Rattle.network_core.specs.Value.{PacketValue}
use Rattle.event_lines.specs.Text.{hops_text, kinds_text}
use Rattle.packet_view.specs.Fields.{each_below, fields_text}

-- the name of a kind of piece
unfoldable pub piece_kind_name : PieceKind → List ℕ
piece_kind_name Up = codes "up"
piece_kind_name Core = codes "core"
piece_kind_name Down = codes "down"

-- the line of the piece of this number: its kind, and the ASes in which it begins and ends
unfoldable pub numbered_piece : ℕ → PieceValue → List ℕ
numbered_piece number piece =
    codes "piece " ++ (decimal number ++ (codes " " ++ (piece_kind_name (kind_of piece)
    ++ (codes " from " ++ (canonical (begins_in piece) ++ (codes " to "
    ++ (canonical (ends_in piece) ++ codes "\n")))))))

-- the line of the piece, if there is one
abbrev pub piece_line : ℕ → Option PieceValue → List ℕ
piece_line number None = []
piece_line number (Some piece) = numbered_piece number piece

-- the line of the piece of this number of a path, if there is one
abbrev pub piece_line_at : List PieceValue → ℕ → List ℕ
piece_line_at pieces number = piece_line number (slice_get pieces number)

-- the lines of the pieces with numbers below this one
unfoldable pub piece_lines : List PieceValue → ℕ → List ℕ
piece_lines pieces count = each_below (piece_line_at pieces) count

-- what is said of a path: its pieces, its kind, its walk, and the last second at which it is live
unfoldable pub path_lines : List PieceValue → ℕ → List ℕ
path_lines pieces last =
    piece_lines pieces (length pieces) ++ (codes "kind " ++ (kinds_text pieces
    ++ (codes "\nwalk " ++ (hops_text (walk_of pieces)
    ++ (codes "\nlive up to second " ++ (decimal last ++ codes "\n"))))))

-- the text says this of a path, which is live up to the half second at which its first hop expires
abbrev pub TellsPath : List PieceValue → List ℕ → Type 0
TellsPath pieces text = (half : ℕ) × (IsExpiry pieces half × (text ≡ path_lines pieces (half / 2)))

-- this is said of a packet: what is said of its path, and its fields; nothing if there is none
abbrev pub TellsPacket : Option PacketValue → Result (List ℕ) EventFault → Type 0
TellsPacket None said = said ≡ Err NoPacket
TellsPacket (Some packet) said = (lines : List ℕ) × (TellsPath packet.sent.way.pieces lines
    × (said ≡ Ok (lines ++ fields_text packet.packet.bytes)))
