-- The segment of the row, and the path over it.
use Rattle.std.specs.Prelude.{ℕ, Bool, false, List, [], ◌∷◌, Some}
use Rattle.path_segment.specs.declared.kind.SegKind.TheVariants.{Intra}
use Rattle.path_segment.specs.Chain.{Chain, chain_of, with_last}
use Rattle.beaconing.specs.Entry.{entry_by, added_by}
use Rattle.path_verifier.specs.Piece.{PieceValue}
use Rattle.path_verifier.specs.Header.{header_of}
use Rattle.combinator.specs.Candidate.{PathValue, path_with}
use Rattle.forwarding.specs.Turned.{no_rules}
use Rattle.network_core.specs.Value.{Way, way_on, KeptAnswer}
use Rattle.row_history.specs.Row.{top, middle, leaf}

abbrev pub begun : Chain
begun = chain_of Intra 1000 4660 (entry_by top 1000 4660 0 1 ∷ [])

abbrev pub passed : Chain
passed = with_last begun (added_by middle begun 1 2)

abbrev pub segment : Chain
segment = with_last passed (added_by leaf passed 1 0)

abbrev pub piece_with : Chain → (from to : ℕ) → Bool → PieceValue
piece_with one from to along = record { segment = one; from = from; to = to; along = along }

abbrev pub piece : PieceValue
piece = piece_with segment 0 2 false

abbrev pub pieces : List PieceValue
pieces = piece ∷ []

abbrev pub path : PathValue
path = path_with pieces (header_of pieces)

abbrev pub answer : KeptAnswer
answer = record {
  source = leaf.ia;
  destination = top.ia;
  answer = record { used = Some 0; paths = path ∷ [] };
  rules = no_rules;
}

abbrev pub way : Way
way = way_on answer path
