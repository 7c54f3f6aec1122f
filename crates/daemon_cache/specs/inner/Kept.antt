-- Paths whose pieces name segments by their places in a set.
use Rattle.std.specs.Prelude.{◌≡◌, ℕ, List, map, Option, option_map, slice_get, filter_map}
use Rattle.path_segment.specs.Chain.{Chain}
use Rattle.path_server.specs.Lookup.{Selection}
use Rattle.path_verifier.specs.Piece.{PieceValue}
use Rattle.path_verifier.specs.Walk.{walk_of}
use Rattle.combinator.specs.Candidate.{PathValue, path_with, segments_of}
use Rattle.combinator.specs.Answer.{AnswerValue}
use Rattle.daemon_cache.specs.declared.kept.PlacedPiece.{PlacedPiece}
use Rattle.daemon_cache.specs.declared.kept.KeptPath.{KeptPath}

-- the piece that a place in a set names, if there is a segment
abbrev pub piece_in : Selection → PlacedPiece → Option PieceValue
piece_in set placed =
    option_map (λ (segment : Chain). record {
      segment = segment;
      from = placed.from;
      to = placed.to;
      along = placed.along;
    }) (slice_get (segments_of set placed.kind) placed.place)

-- the pieces that these places name
abbrev pub pieces_in : Selection → List PlacedPiece → List PieceValue
pieces_in set placed = filter_map (piece_in set) placed

-- the path that is kept
abbrev pub path_in : Selection → KeptPath → PathValue
path_in set kept = path_with (pieces_in set kept.pieces.items) kept.header

-- the kept walk is that of the pieces
abbrev pub HasItsWalk : Selection → KeptPath → Type 0
HasItsWalk set kept = kept.walk.items ≡ walk_of (path_in set kept).pieces

-- the answer of these paths, and of the place of the used policy option
abbrev pub answer_in : Selection → Option ℕ → List KeptPath → AnswerValue
answer_in set used paths = record { used = used; paths = map (path_in set) paths }
