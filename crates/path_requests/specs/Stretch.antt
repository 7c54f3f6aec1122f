-- The pieces in a request: each is a piece of one of its segments.
use Rattle.std.specs.Prelude.{codes, List, Option, Some, slice_get}
use Rattle.refusal.specs.Optional.{◌>>=◌}
use Rattle.serde_json.specs.Data.{Data}
use Rattle.json_fields.specs.Fields.{truth_at}
use Rattle.path_segment.specs.Chain.{Chain}
use Rattle.path_verifier.specs.Piece.{PieceValue}
use Rattle.event_lines.specs.Line.{long_at}

-- a piece of the segment at a place of the request's list
unfoldable pub piece_at : List Chain → Data → Option PieceValue
piece_at segments d = do
  place ← long_at (codes "segment") d
  segment ← slice_get segments place
  from ← long_at (codes "from") d
  to ← long_at (codes "to") d
  along ← truth_at (codes "along") d
  Some (record { segment = segment; from = from; to = to; along = along })
