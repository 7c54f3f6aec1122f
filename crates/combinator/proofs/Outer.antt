-- The outer end of a piece: the AS of its last entry in construction order.
use Rattle.std.proofs.Common.{◌≡◌, ℕ, ◌+◌, ◌-◌, ◌<◌, Bool, true, false, List, length, get_or, take, reverse, Some, ap, ◌∙◌, arith}
use Rattle.std.specs.Prelude.{slice_get}
use Rattle.std.specs.Option.{option_map_or}
use Rattle.std.proofs.lemmas.List.{get_or-drop, get_or-take, get_or-reverse, length-reverse}
use Rattle.std.proofs.lemmas.Option.{slice_get-get_or, get_or_from_slice_get}
use Rattle.path_segment.specs.declared.entry.Entry.{Entry}
use Rattle.path_segment.specs.Chain.{Chain, as_at, between}
use Rattle.path_verifier.specs.Piece.{begins_in, ends_in}
use Rattle.path_verifier.proofs.Entries.{length_travelled}
use Rattle.combinator.specs.inner.UsablePieces.{piece_of, outer_of}

as_of : (entries : List Entry) (k : ℕ) (d : Entry) → k < length entries → as_at entries k ≡ (get_or entries k d).ia
as_of entries k d within =
    ap (λ entry. option_map_or (λ (e : Entry). e.ia) entry 0) (slice_get-get_or entries k d within)

module _ (segment : Chain) (from to : ℕ) (entry : Entry) (order : from < to)
    (within : to < length segment.entries) (there : slice_get segment.entries to ≡ Some entry) where
  count : length (between from to segment.entries) ≡ to + 1 - from
  count = length_travelled (piece_of segment from to true) (record { order = order; within = within })

  -- the last of the entries from one place to the other
  last_there : (k : ℕ) → from + k ≡ to → get_or (between from to segment.entries) k entry ≡ entry
  last_there k place =
      get_or-drop from (take (to + 1) segment.entries) k entry
      ∙ ap (λ i. get_or (take (to + 1) segment.entries) i entry) place
      ∙ get_or-take (to + 1) segment.entries to entry (omega arith)
      ∙ get_or_from_slice_get segment.entries to entry entry there

  ends_along : ends_in (piece_of segment from to true) ≡ entry.ia
  unfolding ends_in
  ends_along =
      let es = between from to segment.entries in
      as_of es (length es - 1) entry (omega (arith, count, order))
      ∙ ap (λ (e : Entry). e.ia) (last_there (length es - 1) (omega (arith, count, order)))

  begins_against : begins_in (piece_of segment from to false) ≡ entry.ia
  unfolding begins_in
  begins_against =
      let es = between from to segment.entries in
      as_of (reverse es) 0 entry (omega (arith, count, order, length-reverse es))
      ∙ ap (λ (e : Entry). e.ia)
      (get_or-reverse es 0 entry (omega (arith, count, order)) ∙ last_there (length es - 1 - 0) (omega (arith, count, order)))

  pub outer_there : (along : Bool) → outer_of (piece_of segment from to along) ≡ entry.ia
  outer_there true = ends_along
  outer_there false = begins_against
