-- Paths compare by number of hop fields, then by header, then by walk.
use Rattle.std.proofs.Common.{◌≡◌, ℕ, List, length, refl, sym, ap, ◌∙◌}
use Rattle.std.specs.Prelude.{◌≢◌}
use Rattle.std.specs.Ordering.{nat_cmp, ordering_then}
use Rattle.std.specs.declared.cmp.Ordering.TheVariants.{Equal}
use Rattle.path_verifier.specs.Piece.{PieceValue}
use Rattle.path_verifier.specs.Header.{header_of, total_hops}
use Rattle.path_verifier.specs.Walk.{walk_of}
use Rattle.combinator.specs.Candidate.{PathValue, path_with}
use Rattle.combinator.specs.Order.{bytes_cmp, path_cmp, shown_cmp, walk_cmp}
use Rattle.combinator.proofs.Numbers.{first_decides, later_decides}
use Rattle.combinator.proofs.Tried.{count_fields}

parts : (one other : PathValue) → path_cmp one other
    ≡ ordering_then (nat_cmp (length one.header.hops) (length other.header.hops))
    (ordering_then (bytes_cmp one.header other.header) (walk_cmp (walk_of one.pieces) (walk_of other.pieces)))
unfolding shown_cmp
parts one other = refl

counted : (hop_count : ℕ) (pieces : List PieceValue) (path : PathValue) → path_with pieces (header_of pieces) ≡ path
    → hop_count ≡ total_hops pieces → hop_count ≡ length path.header.hops
counted hop_count pieces path is count =
    count ∙ sym (count_fields pieces) ∙ ap (λ (p : PathValue). length p.header.hops) is

-- the comparisons of two paths that are seen with their numbers of hop fields
module _ (one other : PathValue) (pieces others : List PieceValue) (count also : ℕ)
    (is : path_with pieces (header_of pieces) ≡ one) (too : path_with others (header_of others) ≡ other)
    (long : count ≡ total_hops pieces) (short : also ≡ total_hops others) where
  counts : nat_cmp count also ≡ nat_cmp (length one.header.hops) (length other.header.hops)
  counts = ap (λ n. nat_cmp n also) (counted count pieces one is long) ∙ ap (nat_cmp (length one.header.hops)) (counted also others other too short)

  headers : bytes_cmp (header_of pieces) (header_of others) ≡ bytes_cmp one.header other.header
  headers = ap (λ (p : PathValue). bytes_cmp p.header (header_of others)) is ∙ ap (λ (p : PathValue). bytes_cmp one.header p.header) too

  pub counts_decide : nat_cmp count also ≢ Equal → nat_cmp count also ≡ path_cmp one other
  counts_decide decided = counts ∙ first_decides _ _ _ (parts one other) (λ equal. decided (counts ∙ equal))

  module _ (equal : nat_cmp count also ≡ Equal) where
    later : path_cmp one other ≡ ordering_then (bytes_cmp one.header other.header) (walk_cmp (walk_of one.pieces) (walk_of other.pieces))
    later = later_decides _ _ _ (parts one other) (sym counts ∙ equal)

    pub headers_decide : bytes_cmp (header_of pieces) (header_of others) ≢ Equal
        → bytes_cmp (header_of pieces) (header_of others) ≡ path_cmp one other
    headers_decide decided = headers ∙ first_decides _ _ _ later (λ same. decided (headers ∙ same))

    pub walks_decide : bytes_cmp (header_of pieces) (header_of others) ≡ Equal
        → walk_cmp (walk_of one.pieces) (walk_of other.pieces) ≡ path_cmp one other
    walks_decide same = sym (later_decides _ _ _ later (sym headers ∙ same))
