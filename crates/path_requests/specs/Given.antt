-- Requests to verify a path, and what the verifier checks for them.
use Rattle.std.specs.Prelude.{ℕ, codes, List, [], ◌∷◌, length, nat_le, Result, Ok, Err}
use Rattle.refusal.specs.Refusal.{◌>>=◌, check, refused_as}
use Rattle.serde_json.specs.Data.{Data}
use Rattle.json_fields.specs.Fields.{list_at, items_at}
use Rattle.path_header.specs.Reading.{read_at}
use Rattle.policy_expr.specs.declared.option_fault.OptionFault.TheVariants.{Unread}
use Rattle.policy_expr.specs.Options.{OptionTexts}
use Rattle.policy_expr.specs.Policy.{Rules, policy_at}
use Rattle.path_verifier.specs.declared.fault.VerifyFault.TheVariants.{PieceCount}
use Rattle.path_verifier.specs.Piece.{PieceValue}
use Rattle.path_verifier.specs.Accepted.{Request, request_of}
use Rattle.event_lines.specs.Line.{bytes_at}
use Rattle.path_requests.specs.declared.fault.RequestFault.{RequestFault}
use Rattle.path_requests.specs.declared.fault.RequestFault.TheVariants.{BadRequest, Policy, Header, Path}
use Rattle.path_requests.specs.Asked.{Asked, asked_in, found_or_bad_request, value_asked}
use Rattle.path_requests.specs.Stretch.{piece_at}

-- a request to verify: the common part, the pieces in order of travel, and bytes that begin with
-- the header
pub record Given : Type 0 where
  pub asked : Asked
  pub pieces : List PieceValue
  pub header : List ℕ

abbrev pub given_of : Asked → List PieceValue → List ℕ → Given
given_of asked pieces header = record { asked = asked; pieces = pieces; header = header }

-- the request to verify in a JSON value whose common part is this one
unfoldable pub given_with : Asked → Data → Result Given RequestFault
given_with asked d = do
  items ← found_or_bad_request (list_at (codes "pieces") d)
  pieces ← found_or_bad_request (items_at (piece_at asked.segments) items)
  header ← found_or_bad_request (bytes_at (codes "header") d)
  Ok (given_of asked pieces header)

-- the request to verify in these bytes
unfoldable pub given_in : List ℕ → Result Given RequestFault
given_in bytes = do
  d ← value_asked bytes
  asked ← asked_in d
  given_with asked d

-- the policy of the request: that of its only option; the weight has no effect
abbrev pub policy_asked : List OptionTexts → Result Rules RequestFault
policy_asked [] = Err BadRequest
policy_asked (texts ∷ []) =
    refused_as (λ fault. Policy (Unread fault)) (policy_at texts.acl texts.sequence)
policy_asked (texts ∷ other ∷ later) = Err BadRequest

-- the request to the verifier under these rules, or the first refusal before it; a path has at most
-- three pieces
unfoldable pub request_under : Rules → Given → Result Request RequestFault
request_under rules given = do
  read ← refused_as Header (read_at given.header)
  few ← check (nat_le (length given.pieces) 3) (Path PieceCount)
  Ok (request_of given.pieces read.0 given.asked.src given.asked.dst given.asked.moment rules)

-- the request to the verifier, or the first refusal before it
unfoldable pub request_at : Given → Result Request RequestFault
request_at given = do
  rules ← policy_asked given.asked.options
  request_under rules given
