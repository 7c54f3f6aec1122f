-- The way out of the first AS of a path.
use Rattle.std.proofs.Common.{◌≡◌, ℕ, ◌+◌, ◌-◌, ◌<◌, ◌≤◌, true, false, List, [], ◌∷◌, length, get_or, Some, refl, sym, ap, ◌∙◌, arith, inl, inr}
use Rattle.std.specs.Prelude.{slice_get}
use Rattle.std.specs.List.{AllByRecursion}
use Rattle.std.proofs.lemmas.Bool.{cases_Bool}
use Rattle.std.proofs.lemmas.List.Elements.{recursion_from_All}
use Rattle.std.proofs.lemmas.Option.{slice_get-get_or}
use Rattle.path_segment.specs.declared.entry.Entry.{Entry}
use Rattle.path_verifier.specs.Piece.{PieceValue, HasRange, travelled_entries, first_place}
use Rattle.path_verifier.specs.Walk.{walk_of}
use Rattle.path_verifier.specs.Accepted.{MakesPath}
use Rattle.path_verifier.proofs.Lengths.{path_is_short}
use Rattle.forwarding.specs.PathPosition.{PathPosition, place_of, out_by}
use Rattle.forwarding.specs.Journey.{first_out}
use Rattle.forwarding.proofs.Betas.{entry_there}
use Rattle.forwarding.proofs.Places.{IsLong, long_of}
use Rattle.forwarding.proofs.Coming.{cross, whole_walk}

pub all_long : (pieces : List PieceValue) → AllByRecursion HasRange pieces
    → AllByRecursion IsLong pieces
all_long [] ranges = tt
all_long (piece ∷ pieces) ranges = (long_of piece ranges.0, all_long pieces ranges.1)

abbrev pub start : PieceValue → List PieceValue → PathPosition
start piece later = record { past = []; piece = piece; later = later; reached = 0 }

first_place_at : (piece : PieceValue) → place_of piece 0 ≡ first_place piece
first_place_at piece =
    elim (cases_Bool piece.along) [
      | inl forward ↦ (let plain : piece.from + 0 ≡ piece.from = omega arith in rw (forward, plain) refl)
      | inr backward ↦ (let plain : piece.to - 0 ≡ piece.to = omega arith in rw (backward, plain) refl)
    ]

-- the entry at the piece's first place is travelled first
first_entry : (piece : PieceValue) (entry : Entry) → HasRange piece
    → slice_get piece.segment.entries (first_place piece) ≡ Some entry
    → slice_get (travelled_entries piece) 0 ≡ Some entry
first_entry piece entry range there =
    let long = long_of piece range in
    let within : 0 < length (travelled_entries piece) = omega arith in
    let here = slice_get-get_or (travelled_entries piece) 0 entry within in
    let at = entry_there piece 0 (get_or (travelled_entries piece) 0 entry) range here in
    here ∙ sym at ∙ ap (slice_get piece.segment.entries) (first_place_at piece) ∙ there

-- by which interface the walk leaves the AS of the entry that is travelled first
pub first_out_is : (piece : PieceValue) (later : List PieceValue) (source destination moment : ℕ)
    (entry : Entry) → MakesPath (piece ∷ later) source destination moment
    → slice_get (travelled_entries piece) 0 ≡ Some entry
    → first_out (walk_of (piece ∷ later)) ≡ out_by piece entry
first_out_is piece later source destination moment entry path there =
    let three = path_is_short (piece ∷ later) source destination moment path in
    let few : length later ≤ 2 = omega arith in
    let ranges = recursion_from_All HasRange (piece ∷ later) path.ranges in
    let long = long_of piece ranges.0 in
    let within : 0 + 1 < length (travelled_entries piece) = omega arith in
    let next = get_or (travelled_entries piece) (0 + 1) entry in
    let further = slice_get-get_or (travelled_entries piece) (0 + 1) entry within in
    ap first_out (whole_walk piece later long (all_long later ranges.1) few
    ∙ cross 0 (start piece later) entry next there further)

-- the same by the segment's entries
pub departs : (piece : PieceValue) (later : List PieceValue) (source destination moment : ℕ)
    (entry : Entry) → MakesPath (piece ∷ later) source destination moment
    → slice_get piece.segment.entries (first_place piece) ≡ Some entry
    → first_out (walk_of (piece ∷ later)) ≡ out_by piece entry
departs piece later source destination moment entry path there =
    let ranges = recursion_from_All HasRange (piece ∷ later) path.ranges in
    first_out_is piece later source destination moment entry path
    (first_entry piece entry ranges.0 there)

-- and by the list of pieces
leaves : (pieces : List PieceValue) (piece other : PieceValue) (source destination moment : ℕ)
    (entry : Entry) → MakesPath pieces source destination moment → piece ≡ get_or pieces 0 other
    → first_out (walk_of pieces)
    ≡ out_by piece (get_or piece.segment.entries (first_place piece) entry)
leaves [] piece other source destination moment entry path is =
    absurd (let some = path.some in omega arith)
leaves (first ∷ later) piece other source destination moment entry path is =
    let ranges = recursion_from_All HasRange (first ∷ later) path.ranges in
    let range = ranges.0 in
    let within : first_place first < length first.segment.entries = elim (cases_Bool first.along) [
      | inl forward ↦ rw forward (let order = range.order in let last = range.within in omega arith)
      | inr backward ↦ rw backward range.within
    ] in
    departs first later source destination moment
    (get_or first.segment.entries (first_place first) entry) path
    (slice_get-get_or first.segment.entries (first_place first) entry within)
    ∙ ap (λ (p : PieceValue). out_by p (get_or p.segment.entries (first_place p) entry)) (sym is)

pub leaves_along : (pieces : List PieceValue) (piece other : PieceValue)
    (source destination moment : ℕ) (entry : Entry) → MakesPath pieces source destination moment
    → piece ≡ get_or pieces 0 other → piece.along ≡ true
    → first_out (walk_of pieces) ≡ (get_or piece.segment.entries piece.from entry).cons_egress
leaves_along pieces piece other source destination moment entry path is forward =
    leaves pieces piece other source destination moment entry path is ∙ rw forward refl

pub leaves_against : (pieces : List PieceValue) (piece other : PieceValue)
    (source destination moment : ℕ) (entry : Entry) → MakesPath pieces source destination moment
    → piece ≡ get_or pieces 0 other → piece.along ≡ false
    → first_out (walk_of pieces) ≡ (get_or piece.segment.entries piece.to entry).cons_ingress
leaves_against pieces piece other source destination moment entry path is backward =
    leaves pieces piece other source destination moment entry path is ∙ rw backward refl
