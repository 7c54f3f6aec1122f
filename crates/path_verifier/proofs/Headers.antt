-- The header of pieces.
use Rattle.std.proofs.Common.{◌≡◌, ℕ, ◌+◌, ◌<◌, ◌≤◌, List, [], ◌∷◌, length, map, Some, All, refl, sym, ap, ◌∙◌, arith, length-append}
use Rattle.std.specs.Prelude.{slice_get, option_map}
use Rattle.std.specs.List.{AllByRecursion, flat_map}
use Rattle.std.proofs.lemmas.List.{length-map, append-nil}
use Rattle.std.proofs.lemmas.List.Elements.{recursion_from_All}
use Rattle.std.proofs.lemmas.Option.{slice_get-map}
use Rattle.path_segment.specs.declared.entry.Entry.{Entry}
use Rattle.path_header.specs.declared.fields.HopField.{HopField}
use Rattle.path_header.specs.Value.{IsHeader, lens_from}
use Rattle.path_header.specs.Building.{first_header}
use Rattle.path_verifier.specs.declared.pieces.PieceSlots.{PieceSlots}
use Rattle.path_verifier.specs.declared.pieces.PieceSlots.TheVariants.{Zero, One, Two, Three}
use Rattle.path_verifier.specs.PieceSlots.{pieces_in}
use Rattle.path_verifier.specs.Piece.{PieceValue, HasRange, travelled_entries}
use Rattle.path_verifier.specs.Header.{field_of, fields_of, info_of, len_of, total_hops, header_of}
use Rattle.path_verifier.specs.inner.Header.{HaveSixBits}
use Rattle.path_verifier.specs.Accepted.{MakesPath}
use Rattle.path_verifier.proofs.Entries.{length_travelled}
use Rattle.path_verifier.proofs.Lengths.{path_is_short}

pub field_there : (piece : PieceValue) (i : ℕ) (entry : Entry) (field : HopField)
    → slice_get (travelled_entries piece) i ≡ Some entry → field ≡ field_of entry
    → slice_get (fields_of piece) i ≡ Some field
unfolding fields_of
field_there piece i entry field there is =
    slice_get-map field_of (travelled_entries piece) i ∙ ap (option_map field_of) there ∙ ap Some (sym is)

pub length_fields_of : (piece : PieceValue) → length (fields_of piece) ≡ len_of piece
unfolding fields_of
length_fields_of piece = length-map (travelled_entries piece) field_of

pub length-pieces_in : (held : PieceSlots) → length (pieces_in held) ≤ 3
length-pieces_in Zero = omega arith
length-pieces_in (One a) = omega arith
length-pieces_in (Two a b) = omega arith
length-pieces_in (Three a b c) = omega arith

-- a piece has a hop field at least
some_of : (piece : PieceValue) → HasRange piece → 0 < len_of piece
some_of piece range = let count = length_travelled piece range in let order = range.order in omega arith

pub is_header : (pieces : List PieceValue) → 0 < length pieces → length pieces ≤ 3
    → AllByRecursion HasRange pieces → total_hops pieces ≤ 64
    → HaveSixBits (lens_from (map len_of pieces))
    → IsHeader (first_header (lens_from (map len_of pieces)) (map info_of pieces) (flat_map fields_of pieces))
is_header [] some three ranges few bits = absurd (omega arith)
is_header (a ∷ []) some three ranges few bits =
    let pa = some_of a ranges.0 in
    let fa = length_fields_of a in
    let hops : length (flat_map fields_of (a ∷ [])) ≡ len_of a + 0 + 0 = rw append-nil (omega arith) in
    record {
      lens = record { some = pa; no_gap = λ _. refl; first_fits = bits.0; second_fits = bits.1; third_fits = bits.2; few = omega arith };
      infos = omega arith;
      hops = hops;
      curr_inf = omega arith;
      curr_hf = omega arith;
    }
is_header (a ∷ b ∷ []) some three ranges few bits =
    let pa = some_of a ranges.0 in
    let pb = some_of b ranges.1.0 in
    let fa = length_fields_of a in
    let fb = length_fields_of b in
    let hops : length (flat_map fields_of (a ∷ b ∷ [])) ≡ len_of a + len_of b + 0 =
    simp (length-append, append-nil) (omega arith) in
    record {
      lens = record { some = pa; no_gap = λ _. refl; first_fits = bits.0; second_fits = bits.1; third_fits = bits.2; few = omega arith };
      infos = omega arith;
      hops = hops;
      curr_inf = omega arith;
      curr_hf = omega arith;
    }
is_header (a ∷ b ∷ c ∷ []) some three ranges few bits =
    let pa = some_of a ranges.0 in
    let pb = some_of b ranges.1.0 in
    let pc = some_of c ranges.1.1.0 in
    let fa = length_fields_of a in
    let fb = length_fields_of b in
    let fc = length_fields_of c in
    let hops : length (flat_map fields_of (a ∷ b ∷ c ∷ [])) ≡ len_of a + len_of b + len_of c =
    simp (length-append, append-nil) (omega arith) in
    record {
      lens = record { some = pa; no_gap = λ none. absurd (omega arith); first_fits = bits.0; second_fits = bits.1; third_fits = bits.2; few = omega arith };
      infos = omega arith;
      hops = hops;
      curr_inf = omega arith;
      curr_hf = omega arith;
    }
is_header (a ∷ b ∷ c ∷ d ∷ more) some three ranges few bits = absurd (omega arith)

-- ---- the header of a path

-- a piece of a segment of at most 63 entries has fewer than 64 hop fields
small_of : (piece : PieceValue) → HasRange piece → length piece.segment.entries ≤ 63 → len_of piece < 64
small_of piece range small =
    let count = length_travelled piece range in
    let order = range.order in
    let within = range.within in
    omega arith

six_bits : (pieces : List PieceValue) → length pieces ≤ 3 → AllByRecursion HasRange pieces
    → AllByRecursion (λ piece. length piece.segment.entries ≤ 63) pieces
    → HaveSixBits (lens_from (map len_of pieces))
six_bits [] three ranges small = (omega arith, omega arith, omega arith)
six_bits (a ∷ []) three ranges small = (small_of a ranges.0 small.0, omega arith, omega arith)
six_bits (a ∷ b ∷ []) three ranges small = (small_of a ranges.0 small.0, small_of b ranges.1.0 small.1.0, omega arith)
six_bits (a ∷ b ∷ c ∷ []) three ranges small =
    (small_of a ranges.0 small.0, small_of b ranges.1.0 small.1.0, small_of c ranges.1.1.0 small.1.1.0)
six_bits (a ∷ b ∷ c ∷ d ∷ more) three ranges small = absurd (omega arith)

pub header_is_one : (pieces : List PieceValue) (src dst now : ℕ) → MakesPath pieces src dst now
    → All (λ piece. length piece.segment.entries ≤ 63) pieces → IsHeader (header_of pieces)
unfolding header_of
header_is_one pieces src dst now path small =
    let ranges = recursion_from_All HasRange pieces path.ranges in
    let three = path_is_short pieces src dst now path in
    is_header pieces path.some three ranges path.few
    (six_bits pieces three ranges (recursion_from_All (λ (piece : PieceValue). length piece.segment.entries ≤ 63) pieces small))
