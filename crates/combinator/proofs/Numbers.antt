-- The headers of pieces compare place by place: info fields as the numbers that they spell, and hop
-- fields piece by piece.
use Rattle.std.proofs.Common.{◌≡◌, ℕ, ◌*◌, ◌≤◌, List, [], ◌∷◌, length, map, drop, get_or, refl, sym, ap, ◌∙◌, arith}
use Rattle.std.specs.Prelude.{◌≢◌}
use Rattle.std.specs.List.{AllByRecursion}
use Rattle.std.specs.Ordering.{nat_cmp, ordering_then}
use Rattle.std.specs.declared.cmp.Ordering.{Ordering}
use Rattle.std.specs.declared.cmp.Ordering.TheVariants.{Less, Equal, Greater}
use Rattle.std.specs.Cmp.Lexicographic.{slice_cmp}
use Rattle.path_verifier.specs.Piece.{PieceValue, HasRange}
use Rattle.path_verifier.specs.Header.{info_of, header_of, len_of}
use Rattle.path_header.specs.declared.lens.SegLens.{SegLens}
use Rattle.path_header.specs.Value.{info_count, lens_from}
use Rattle.std.proofs.lemmas.List.{length-map}
use Rattle.combinator.specs.Order.{bytes_cmp}
use Rattle.combinator.specs.inner.Group.{info_bytes, hop_bytes}
use Rattle.combinator.specs.inner.Search.{HasFields, infos_of}
use Rattle.combinator.specs.inner.UsablePieces.{info_number}
use Rattle.combinator.specs.inner.Words.{AreSmall, hops_bytes, lens_cmp, lens_of_pieces}
use Rattle.combinator.proofs.Fields.{cmp_parts, length_hop_bytes}
use Rattle.combinator.proofs.Least.{then_decided}
use Rattle.combinator.proofs.Words.{count_of, headers_in_parts, info_cmp, same_lens}

-- of as many pieces, the info fields one after another compare as their numbers do
pub infos_as_numbers : (pieces others : List PieceValue) → length pieces ≡ length others
    → slice_cmp nat_cmp (infos_of pieces) (infos_of others)
    ≡ slice_cmp nat_cmp (map info_number pieces) (map info_number others)
infos_as_numbers [] [] same = refl
infos_as_numbers [] (other ∷ others) same = absurd (omega (arith, same))
infos_as_numbers (piece ∷ pieces) [] same = absurd (omega (arith, same))
infos_as_numbers (piece ∷ pieces) (other ∷ others) same =
    cmp_parts (info_bytes piece) (info_bytes other) (infos_of pieces) (infos_of others) refl
    ∙ ap (λ c. ordering_then c (slice_cmp nat_cmp (infos_of pieces) (infos_of others))) (info_cmp (info_of piece) (info_of other))
    ∙ ap (ordering_then (nat_cmp (info_number piece) (info_number other))) (infos_as_numbers pieces others (omega (arith, same)))

-- the order of pieces by their hop fields, place by place
abbrev pub each_hops_cmp : (pieces others : List PieceValue) → Ordering
each_hops_cmp [] others = Equal
each_hops_cmp (piece ∷ pieces) [] = Equal
each_hops_cmp (piece ∷ pieces) (other ∷ others) =
    ordering_then (slice_cmp nat_cmp (hop_bytes piece) (hop_bytes other)) (each_hops_cmp pieces others)

-- of pieces of the same lengths, the first hop fields that differ decide
pub hops_in_turn : (pieces others : List PieceValue) → AllByRecursion HasFields pieces
    → AllByRecursion HasFields others → map len_of pieces ≡ map len_of others
    → slice_cmp nat_cmp (hops_bytes pieces) (hops_bytes others) ≡ each_hops_cmp pieces others
hops_in_turn [] [] has also same = refl
hops_in_turn [] (other ∷ others) has also same = absurd (let long = ap length same in omega (arith, long))
hops_in_turn (piece ∷ pieces) [] has also same = absurd (let long = ap length same in omega (arith, long))
hops_in_turn (piece ∷ pieces) (other ∷ others) has also same =
    let len : len_of piece ≡ len_of other = ap (λ ns. get_or ns 0 0) same in
    cmp_parts (hop_bytes piece) (hop_bytes other) (hops_bytes pieces) (hops_bytes others)
    (length_hop_bytes piece has.0 ∙ ap (λ n. 12 * n) len ∙ sym (length_hop_bytes other also.0))
    ∙ ap (ordering_then (slice_cmp nat_cmp (hop_bytes piece) (hop_bytes other)))
    (hops_in_turn pieces others has.1 also.1 (ap (drop 1) same))

then_end : (c : Ordering) → ordering_then c Equal ≡ c
then_end Less = refl
then_end Equal = refl
then_end Greater = refl

-- what two or three comparisons give, one after another
pub last_decides : (c d all : Ordering) → all ≡ ordering_then c (ordering_then d Equal) → c ≡ Equal → d ≡ all
last_decides c d all is equal =
    sym (is ∙ ap (λ o. ordering_then o (ordering_then d Equal)) equal ∙ then_end d)

pub first_decides : (c d all : Ordering) → all ≡ ordering_then c d → c ≢ Equal → c ≡ all
first_decides c d all is decided = sym (is ∙ then_decided c d decided)

pub later_decides : (c d all : Ordering) → all ≡ ordering_then c d → c ≡ Equal → all ≡ d
later_decides c d all is equal = is ∙ ap (λ o. ordering_then o d) equal

-- ---- lengths

numbers_of : (xs ys : List ℕ) → length xs ≡ length ys → length xs ≤ 3 → lens_from xs ≡ lens_from ys → xs ≡ ys
numbers_of [] [] long few same = refl
numbers_of [] (y ∷ ys) long few same = absurd (omega (arith, long))
numbers_of (x ∷ xs) [] long few same = absurd (omega (arith, long))
numbers_of (a ∷ []) (p ∷ []) long few same = ap (λ n. n ∷ []) (ap (λ (lens : SegLens). lens.first) same)
numbers_of (a ∷ []) (p ∷ q ∷ ys) long few same = absurd (omega (arith, long))
numbers_of (a ∷ b ∷ xs) (p ∷ []) long few same = absurd (omega (arith, long))
numbers_of (a ∷ b ∷ []) (p ∷ q ∷ []) long few same =
    ap (λ n. n ∷ b ∷ []) (ap (λ (lens : SegLens). lens.first) same) ∙ ap (λ n. p ∷ n ∷ []) (ap (λ (lens : SegLens). lens.second) same)
numbers_of (a ∷ b ∷ []) (p ∷ q ∷ r ∷ ys) long few same = absurd (omega (arith, long))
numbers_of (a ∷ b ∷ c ∷ xs) (p ∷ q ∷ []) long few same = absurd (omega (arith, long))
numbers_of (a ∷ b ∷ c ∷ []) (p ∷ q ∷ r ∷ []) long few same =
    ap (λ n. n ∷ b ∷ c ∷ []) (ap (λ (lens : SegLens). lens.first) same)
    ∙ ap (λ n. p ∷ n ∷ c ∷ []) (ap (λ (lens : SegLens). lens.second) same)
    ∙ ap (λ n. p ∷ q ∷ n ∷ []) (ap (λ (lens : SegLens). lens.third) same)
numbers_of (a ∷ b ∷ c ∷ []) (p ∷ q ∷ r ∷ s ∷ ys) long few same = absurd (omega (arith, long))
numbers_of (a ∷ b ∷ c ∷ d ∷ xs) (p ∷ q ∷ r ∷ ys) long few same = absurd (omega (arith, few))

-- headers with the same lengths are of as many pieces, with the same numbers of hop fields
pub same_lens_of : (pieces others : List PieceValue) → length pieces ≤ 3 → length others ≤ 3
    → AllByRecursion HasRange pieces → AllByRecursion HasRange others
    → lens_of_pieces pieces ≡ lens_of_pieces others → map len_of pieces ≡ map len_of others
same_lens_of pieces others few also_few ranges also same =
    let count = ap info_count same in
    let one = count_of pieces few ranges in
    let two = count_of others also_few also in
    let long = length-map pieces len_of in
    let short = length-map others len_of in
    numbers_of (map len_of pieces) (map len_of others) (omega (arith, count, one, two, long, short)) (omega (arith, long, few)) same

-- ---- headers

module _ (pieces others : List PieceValue) (few : length pieces ≤ 3) (also_few : length others ≤ 3)
    (ranges : AllByRecursion HasRange pieces) (also : AllByRecursion HasRange others)
    (small : AreSmall (lens_of_pieces pieces)) (also_small : AreSmall (lens_of_pieces others)) where
  parts : bytes_cmp (header_of pieces) (header_of others)
      ≡ ordering_then (lens_cmp (lens_of_pieces pieces) (lens_of_pieces others))
      (ordering_then (slice_cmp nat_cmp (infos_of pieces) (infos_of others)) (slice_cmp nat_cmp (hops_bytes pieces) (hops_bytes others)))
  parts = headers_in_parts pieces others few also_few ranges also small also_small

  pub lens_decide : lens_cmp (lens_of_pieces pieces) (lens_of_pieces others) ≢ Equal
      → lens_cmp (lens_of_pieces pieces) (lens_of_pieces others) ≡ bytes_cmp (header_of pieces) (header_of others)
  lens_decide decided = first_decides _ _ _ parts decided

  module _ (equal : lens_cmp (lens_of_pieces pieces) (lens_of_pieces others) ≡ Equal) where
    pub lens_are : map len_of pieces ≡ map len_of others
    lens_are = same_lens_of pieces others few also_few ranges also (same_lens _ _ equal)

    as_many : length pieces ≡ length others
    as_many = sym (length-map pieces len_of) ∙ ap length lens_are ∙ length-map others len_of

    later : bytes_cmp (header_of pieces) (header_of others)
        ≡ ordering_then (slice_cmp nat_cmp (map info_number pieces) (map info_number others)) (slice_cmp nat_cmp (hops_bytes pieces) (hops_bytes others))
    later = later_decides _ _ _ parts equal ∙ ap (λ o. ordering_then o (slice_cmp nat_cmp (hops_bytes pieces) (hops_bytes others))) (infos_as_numbers pieces others as_many)

    pub infos_decide : slice_cmp nat_cmp (map info_number pieces) (map info_number others) ≢ Equal
        → slice_cmp nat_cmp (map info_number pieces) (map info_number others) ≡ bytes_cmp (header_of pieces) (header_of others)
    infos_decide decided = first_decides _ _ _ later decided

    pub hops_decide : slice_cmp nat_cmp (map info_number pieces) (map info_number others) ≡ Equal
        → slice_cmp nat_cmp (hops_bytes pieces) (hops_bytes others) ≡ bytes_cmp (header_of pieces) (header_of others)
    hops_decide same = sym (later_decides _ _ _ later same)
