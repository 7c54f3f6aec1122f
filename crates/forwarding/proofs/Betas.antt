-- The accumulators of a piece from entry to entry.
use Rattle.std.proofs.Common.{◌≡◌, ℕ, ◌+◌, ◌-◌, ◌<◌, if◌then◌else◌, List, length, get_or, take, Some, refl, sym, ap, ◌∙◌, arith, inl, inr}
use Rattle.std.specs.Prelude.{slice_get, reverse}
use Rattle.std.proofs.lemmas.Bool.{cases_Bool}
use Rattle.std.proofs.lemmas.List.{get_or-reverse, get_or-drop, get_or-take}
use Rattle.std.proofs.lemmas.Option.{get_or_from_slice_get, slice_get-get_or, slice_get_within}
use Rattle.hop_mac.specs.Hop.{beta_after}
use Rattle.hop_mac.proofs.Undone.{beta_after-twice}
use Rattle.path_segment.specs.declared.entry.Entry.{Entry}
use Rattle.path_segment.specs.Chain.{beta_of}
use Rattle.path_segment.proofs.Chained.{beta_of-next}
use Rattle.path_verifier.specs.Piece.{PieceValue, HasRange, entries_of, travelled_entries}
use Rattle.path_verifier.specs.Header.{info_with, field_of, len_of}
use Rattle.path_verifier.proofs.Entries.{length_travelled, length-entries_of}
use Rattle.router_step.specs.declared.arrival.Arrival.TheVariants.{Link}
use Rattle.router_step.specs.Place.{seg_id_on_arrival, seg_id_on_leaving}
use Rattle.forwarding.specs.PathPosition.{place_of, beta_at, beta_before}

-- ---- where an entry stands

read_at : (entries : List Entry) (k i : ℕ) (entry : Entry) → k < length entries
    → get_or entries k entry ≡ entry → i ≡ k → slice_get entries i ≡ Some entry
read_at entries k i entry within read same = ap (slice_get entries) same
    ∙ slice_get-get_or entries k entry within ∙ ap Some read

-- the entry that is travelled at a place stands in the segment at its own place
pub entry_there : (piece : PieceValue) (i : ℕ) (entry : Entry) → HasRange piece
    → slice_get (travelled_entries piece) i ≡ Some entry
    → slice_get piece.segment.entries (place_of piece i) ≡ Some entry
entry_there piece i entry range there =
    let inside : i < len_of piece = slice_get_within (travelled_entries piece) i entry there in
    let long = length_travelled piece range in
    let cut = length-entries_of piece range in
    let order = range.order in
    let within = range.within in
    let read = get_or_from_slice_get (travelled_entries piece) i entry entry there in
    elim (cases_Bool piece.along) [
      | inl forward ↦ (
          let at : get_or (entries_of piece) i entry ≡ entry = rw forward at read in
          let place : place_of piece i ≡ piece.from + i = rw forward refl in
          let below : piece.from + i < piece.to + 1 = omega arith in
          read_at piece.segment.entries (piece.from + i) (place_of piece i) entry (omega arith)
          (sym (get_or-take (piece.to + 1) piece.segment.entries (piece.from + i) entry below)
          ∙ sym (get_or-drop piece.from (take (piece.to + 1) piece.segment.entries) i entry)
          ∙ at) place)
      | inr backward ↦ (
          let at : get_or (reverse (entries_of piece)) i entry ≡ entry = rw backward at read in
          let place : place_of piece i ≡ piece.to - i = rw backward refl in
          let inside_cut : i < length (entries_of piece) = omega arith in
          let back : piece.from + (length (entries_of piece) - 1 - i) ≡ piece.to - i = omega arith in
          let below : piece.to - i < piece.to + 1 = omega arith in
          read_at piece.segment.entries (piece.to - i) (place_of piece i) entry (omega arith)
          (sym (get_or-take (piece.to + 1) piece.segment.entries (piece.to - i) entry below)
          ∙ ap (λ n. get_or (take (piece.to + 1) piece.segment.entries) n entry) (sym back)
          ∙ sym (get_or-drop piece.from (take (piece.to + 1) piece.segment.entries)
          (length (entries_of piece) - 1 - i) entry)
          ∙ sym (get_or-reverse (entries_of piece) i entry inside_cut) ∙ at) place)
    ]

-- ---- from entry to entry

-- a packet that comes over a link has the entry's accumulator after its arrival
pub settled : (piece : PieceValue) (i interface : ℕ) (entry : Entry) → HasRange piece
    → slice_get (travelled_entries piece) i ≡ Some entry
    → seg_id_on_arrival (Link interface) (info_with piece (beta_before piece i))
    (field_of entry) ≡ beta_at piece i
settled piece i interface entry range there =
    let at = entry_there piece i entry range there in
    let next = beta_of-next piece.segment (place_of piece i) entry at in
    elim (cases_Bool piece.along) [
      | inl forward ↦ rw forward refl
      | inr backward ↦ (
          let after : beta_of piece.segment (piece.to - i + 1) ≡ beta_after
          (beta_of piece.segment (piece.to - i)) entry.mac = rw backward at next in
          let whole : beta_after (beta_of piece.segment (piece.to - i + 1)) entry.mac
          ≡ beta_of piece.segment (piece.to - i) =
          ap (λ b. beta_after b entry.mac) after
          ∙ beta_after-twice (beta_of piece.segment (piece.to - i)) entry.mac in
          rw backward whole)
    ]

-- a packet that leaves has the accumulator with which it comes to the next entry
pub onward : (piece : PieceValue) (i : ℕ) (entry : Entry) → HasRange piece
    → slice_get (travelled_entries piece) i ≡ Some entry → i + 1 < len_of piece
    → seg_id_on_leaving (info_with piece (beta_at piece i)) (field_of entry) ≡ beta_before piece
    (i + 1)
onward piece i entry range there more =
    let at = entry_there piece i entry range there in
    let next = beta_of-next piece.segment (place_of piece i) entry at in
    let long = length_travelled piece range in
    let order = range.order in
    elim (cases_Bool piece.along) [
      | inl forward ↦ (
          let after : beta_of piece.segment (piece.from + i + 1) ≡ beta_after
          (beta_of piece.segment (piece.from + i)) entry.mac = rw forward at next in
          let place : piece.from + i + 1 ≡ piece.from + (i + 1) = omega arith in
          let whole : beta_after (beta_of piece.segment (piece.from + i)) entry.mac
          ≡ beta_of piece.segment (piece.from + (i + 1)) = sym after
          ∙ ap (beta_of piece.segment) place in
          rw forward whole)
      | inr backward ↦ (
          let place : piece.to - i ≡ piece.to - (i + 1) + 1 = omega arith in
          let whole : beta_of piece.segment (piece.to - i) ≡ beta_of piece.segment
          (piece.to - (i + 1) + 1) = ap (beta_of piece.segment) place in
          rw backward whole)
    ]

-- at the first entry that is travelled, the accumulator is that of the segment's info field
pub first_place_is : (piece : PieceValue)
    → place_of piece 0 ≡ (if piece.along then piece.from else piece.to)
first_place_is piece = elim (cases_Bool piece.along) [
  | inl forward ↦ rw forward (omega arith)
  | inr backward ↦ rw backward (omega arith)
]
