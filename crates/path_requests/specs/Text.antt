-- The text of an answer: JSON without white space, with the names in ascending order.
use Rattle.std.specs.Prelude.{ℕ, ◌+◌, codes, List, [], ◌∷◌, ◌++◌, Bool, true, false, if◌then◌else◌, Option, Some, None}
use Rattle.std.specs.List.{join_by}
use Rattle.std.specs.Fmt.{decimal}
use Rattle.hex.specs.Hex.{encode_lower}
use Rattle.path_header.specs.Spelling.{spelling}
use Rattle.path_segment.specs.Chain.{Chain}
use Rattle.path_segment.specs.Tests.{is_same}
use Rattle.path_verifier.specs.Piece.{PieceValue}
use Rattle.path_verifier.specs.Walk.{walk_of}
use Rattle.combinator.specs.Candidate.{PathValue}
use Rattle.combinator.specs.Answer.{AnswerValue}
use Rattle.event_lines.specs.Text.{hops_text, kinds_text}
use Rattle.path_requests.specs.declared.fault.RequestFault.{RequestFault}
use Rattle.path_requests.specs.Expiry.{path_expiry}
use Rattle.path_requests.specs.Fault.{code_and_name}

-- the place in the list of the first segment that equals this one
unfoldable pub place_in_list : Chain → List Chain → ℕ
place_in_list segment [] = 0
place_in_list segment (one ∷ later) = if is_same one segment then 0
    else 1 + place_in_list segment later

-- true or false
abbrev pub truth_json : Bool → List ℕ
truth_json true = codes "true"
truth_json false = codes "false"

-- a piece: the place of its segment in the request, the places of its entries, and its direction
unfoldable pub piece_json : List Chain → PieceValue → List ℕ
piece_json segments piece =
    codes "{\"along\":" ++ (truth_json piece.along
    ++ (codes ",\"from\":" ++ (decimal piece.from
    ++ (codes ",\"segment\":" ++ (decimal (place_in_list piece.segment segments)
    ++ (codes ",\"to\":" ++ (decimal piece.to ++ codes "}")))))))

-- a path: the half second at which it expires, its header in hexadecimal, the letters of its
-- pieces, the pieces in order of travel, and its walk
unfoldable pub path_json : List Chain → PathValue → List ℕ
path_json segments path =
    codes "{\"expiry\":" ++ (decimal (path_expiry path.pieces)
    ++ (codes ",\"header\":\"" ++ (encode_lower (spelling path.header)
    ++ (codes "\",\"kind\":\"" ++ (kinds_text path.pieces
    ++ (codes "\",\"pieces\":[" ++ (join_by (piece_json segments) (codes ",") path.pieces
    ++ (codes "],\"walk\":\"" ++ (hops_text (walk_of path.pieces) ++ codes "\"}")))))))))

-- the option that was used, by its place in the request; nothing if no option leaves a path
abbrev pub option_json : Option ℕ → List ℕ
option_json None = []
option_json (Some used) = codes "\"option\":" ++ (decimal used ++ codes ",")

-- an answer: the option that was used, and the paths, best first
unfoldable pub answer_json : List Chain → AnswerValue → List ℕ
answer_json segments answer =
    codes "{" ++ (option_json answer.used
    ++ (codes "\"paths\":[" ++ (join_by (path_json segments) (codes ",") answer.paths
    ++ codes "]}")))

-- a path that may be sent
unfoldable pub accepted_json : List PieceValue → List ℕ
accepted_json pieces =
    codes "{\"expiry\":" ++ (decimal (path_expiry pieces)
    ++ (codes ",\"kind\":\"" ++ (kinds_text pieces
    ++ (codes "\",\"walk\":\"" ++ (hops_text (walk_of pieces) ++ codes "\"}")))))

-- a refusal: its number and its name
unfoldable pub fault_json : RequestFault → List ℕ
fault_json fault =
    codes "{\"code\":" ++ (decimal (code_and_name fault).0
    ++ (codes ",\"name\":\"" ++ ((code_and_name fault).1 ++ codes "\"}")))
