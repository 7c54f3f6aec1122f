-- What is read of the bytes of a packet that was delivered.
use Rattle.std.proofs.Common.{◌≡◌, ℕ, ◌+◌, ◌-◌, ◌<◌, ◌≤◌, List, [], ◌∷◌, ◌++◌, length, get_or, Ok, refl, sym, ap, ◌∙◌, subst, arith}
use Rattle.std.specs.List.{AllByRecursion}
use Rattle.std.proofs.lemmas.List.Elements.{recursion_from_All}
use Rattle.std.proofs.lemmas.Option.{slice_get-get_or}
use Rattle.path_segment.specs.declared.entry.Entry.{Entry}
use Rattle.path_header.specs.Value.{HeaderValue, IsHeader, header_len}
use Rattle.path_header.specs.Spelling.{FitsBits, SpellsHeader, spelling}
use Rattle.path_verifier.specs.Piece.{PieceValue, HasRange, travelled_entries}
use Rattle.path_verifier.specs.Header.{len_of, header_of}
use Rattle.path_verifier.specs.Accepted.{MakesPath}
use Rattle.path_verifier.proofs.Lengths.{path_is_short}
use Rattle.router_step.specs.declared.arrival.Arrival.TheVariants.{Inside}
use Rattle.router_step.specs.Packet.{destination_of, source_of, header_in}
use Rattle.forwarding.specs.Frame.{frame_of, HasFrame}
use Rattle.forwarding.specs.PathPosition.{PathPosition, pieces_at}
use Rattle.forwarding.specs.Turned.{header_behind}
use Rattle.forwarding.proofs.Places.{long_of}
use Rattle.forwarding.proofs.Framed.{destination_is, source_is, header_is_read}
use Rattle.forwarding.proofs.Spelled.{spelled_on}
use Rattle.forwarding.proofs.Behind.{there_behind}
use Rattle.forwarding.proofs.Way.{spot_of}

-- the last of some pieces
record HasLast (pieces : List PieceValue) : Type 0 where
  pub past : List PieceValue
  pub piece : PieceValue
  pub is : past ++ piece ∷ [] ≡ pieces

last_of : (piece : PieceValue) (later : List PieceValue) → HasLast (piece ∷ later)
last_of piece [] = record { past = []; piece = piece; is = refl }
last_of piece (next ∷ later) =
    let last = last_of next later in
    record {
      past = piece ∷ last.past;
      piece = last.piece;
      is = ap (λ (ps : List PieceValue). piece ∷ ps) last.is;
    }

has_last : (pieces : List PieceValue) → 0 < length pieces → HasLast pieces
has_last [] some = absurd (omega arith)
has_last (piece ∷ later) some = last_of piece later

range_of_last : (past : List PieceValue) (piece : PieceValue)
    → AllByRecursion HasRange (past ++ piece ∷ []) → HasRange piece
range_of_last [] piece ranges = ranges.0
range_of_last (one ∷ past) piece ranges = range_of_last past piece ranges.1

-- the header behind all pieces has a spelling
pub behind_spelled : (source destination moment : ℕ) (pieces : List PieceValue)
    → MakesPath pieces source destination moment → HasFrame source destination pieces
    → SpellsHeader (spelling (header_behind pieces)) (header_behind pieces)
behind_spelled source destination moment pieces path frame =
    let last = has_last pieces path.some in
    let ranges : AllByRecursion HasRange (last.past ++ last.piece ∷ []) =
    subst (AllByRecursion HasRange) (sym last.is)
    (recursion_from_All HasRange pieces path.ranges) in
    let range = range_of_last last.past last.piece ranges in
    let long = long_of last.piece range in
    let place = len_of last.piece - 1 in
    let within : len_of last.piece - 1 < len_of last.piece = omega arith in
    let over : len_of last.piece - 1 + 1 ≡ len_of last.piece = omega arith in
    let none : Entry =
    record { ia = 0; cons_ingress = 0; cons_egress = 0; exp_time = 0; mac = [] } in
    let entry = get_or (travelled_entries last.piece) place none in
    let there = slice_get-get_or (travelled_entries last.piece) place none within in
    let spot : PathPosition =
    record { past = last.past; piece = last.piece; later = []; reached = place } in
    let three : length (pieces_at spot) ≤ 3 = (
    let most = path_is_short pieces source destination moment path in
    let same = ap (λ (ps : List PieceValue). length ps) last.is in
    omega arith) in
    let is = spot_of spot entry three ranges there in
    let spells = spelled_on spot entry is ranges
    (subst (λ (ps : List PieceValue). IsHeader (header_of ps)) (sym last.is) frame.is_header)
    (subst (λ (ps : List PieceValue). FitsBits (header_of ps)) (sym last.is) frame.fits)
    Inside (λ m same. absurd cc) in
    subst (λ (h : HeaderValue). SpellsHeader (spelling h) h)
    (there_behind spot refl over ∙ ap header_behind last.is) spells

-- both addresses and the header of a delivered packet are read as they are
pub received : (source destination moment : ℕ) (payload : List ℕ) (pieces : List PieceValue)
    → MakesPath pieces source destination moment → HasFrame source destination pieces
    → (source_of (frame_of source destination (header_behind pieces) payload) ≡ source)
    × (destination_of (frame_of source destination (header_behind pieces) payload) ≡ destination)
    × (header_in (frame_of source destination (header_behind pieces) payload)
    ≡ Ok (header_behind pieces, header_len (header_behind pieces)))
received source destination moment payload pieces path frame =
    let header = header_behind pieces in (
      source_is source destination header payload frame.source_fits,
      destination_is source destination header payload frame.destination_fits,
      header_is_read source destination header payload
          (behind_spelled source destination moment pieces path frame),
    )
