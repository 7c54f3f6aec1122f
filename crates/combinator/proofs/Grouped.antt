-- How pieces are divided into groups, one group after the other.
use Rattle.std.proofs.Common.{◌≡◌, ℕ, ◌+◌, ◌-◌, ◌<◌, ◌≤◌, List, [], ◌∷◌, ◌++◌, length, take, drop, All, Contains, sym, ap, subst, ◌∙◌, inl, inr, arith, length-drop}
use Rattle.std.proofs.Math.Seq.{take-add}
use Rattle.std.specs.List.Sorted.{IsPermutation}
use Rattle.std.proofs.lemmas.List.{take-append-drop}
use Rattle.std.proofs.lemmas.List.Elements.{All-push, Contains-push, Contains-append_left, Contains-append_right, Contains-append_cases}
use Rattle.std.proofs.lemmas.List.Sorted.{All-permutation, Contains-permutation}
use Rattle.path_verifier.specs.Piece.{PieceValue}
use Rattle.combinator.specs.inner.UsablePieces.{AreIn}
use Rattle.combinator.specs.inner.Group.{GroupValue, IsGroup, group_with}
use Rattle.combinator.specs.inner.Over.{AreGrouped, AreGroupsOf}
use Rattle.combinator.proofs.Collected.{take_past}
use Rattle.combinator.proofs.Least.{of_taken}

of_rest : (n : ℕ) (pieces : List PieceValue) → AreIn (drop n pieces) pieces
of_rest n pieces piece there =
    subst (λ (ps : List PieceValue). Contains ps piece) (take-append-drop n pieces)
    (Contains-append_right (take n pieces) (drop n pieces) piece there)

all_rest : (pieces : List PieceValue) (start : ℕ) → take (length pieces - start) (drop start pieces) ≡ drop start pieces
all_rest pieces start = take_past (drop start pieces) (length pieces - start) (let left = length-drop start pieces in omega (arith, left))

pub rest_within : (pieces : List PieceValue) (start count : ℕ) → start < length pieces
    → count ≤ length (take (length pieces - start) (drop start pieces)) → start + count ≤ length pieces
rest_within pieces start count less within =
    let same = ap (λ (ps : List PieceValue). length ps) (all_rest pieces start) in
    let left = length-drop start pieces in
    omega (arith, same, left, within, less)

-- one group more, of the next pieces
module _ (pieces : List PieceValue) (start count : ℕ) (old new : List GroupValue) (head : PieceValue) (group : GroupValue)
    (is : group ≡ group_with head (take count (take (length pieces - start) (drop start pieces))))
    (grown : new ≡ old ++ group ∷ []) where
  own_pieces : group.pieces ≡ take count (drop start pieces)
  own_pieces =
      ap (λ (g : GroupValue). g.pieces) is
      ∙ ap (take count) (all_rest pieces start)

  pub each_more : IsGroup group → All IsGroup old → All IsGroup new
  each_more here so_far = subst (All IsGroup) (sym grown) (All-push IsGroup old group so_far here)

  pub grouped_more : AreGrouped old (take start pieces) → AreGrouped new (take (start + count) pieces)
  grouped_more so_far piece there =
      elim (Contains-append_cases (take start pieces) (take count (drop start pieces)) piece
      (subst (λ (ps : List PieceValue). Contains ps piece) (take-add start count pieces) there)) [
        | inl before ↦
            (let found = so_far piece before in
            (found.0, subst (λ (gs : List GroupValue). Contains gs found.0) (sym grown) (Contains-append_left old (group ∷ []) found.0 found.1), found.2))
        | inr here ↦ (
          group,
          subst (λ (gs : List GroupValue). Contains gs group) (sym grown) (Contains-push old group),
          subst (λ (ps : List PieceValue). Contains ps piece) (sym own_pieces) here,
        )
      ]

  pub own_more : All (λ (g : GroupValue). AreIn g.pieces pieces) old → All (λ (g : GroupValue). AreIn g.pieces pieces) new
  own_more so_far =
      subst (All (λ (g : GroupValue). AreIn g.pieces pieces)) (sym grown)
      (All-push (λ (g : GroupValue). AreIn g.pieces pieces) old group so_far
      (λ piece there. of_rest start pieces piece (of_taken (drop start pieces) count piece
      (subst (λ (ps : List PieceValue). Contains ps piece) own_pieces there))))

-- all groups
pub are_groups_of : (groups : List GroupValue) (pieces : List PieceValue) (start : ℕ) → length pieces ≤ start
    → All IsGroup groups → AreGrouped groups (take start pieces) → All (λ (group : GroupValue). AreIn group.pieces pieces) groups
    → AreGroupsOf groups pieces
are_groups_of groups pieces start past each grouped own = record {
  each = each;
  grouped = λ piece there.
      grouped piece (subst (λ (ps : List PieceValue). Contains ps piece) (sym (take_past pieces start past)) there);
  within = own;
}

-- the same in another order
pub in_other_order : (groups others : List GroupValue) (pieces : List PieceValue) → AreGroupsOf groups pieces
    → IsPermutation groups others → AreGroupsOf others pieces
in_other_order groups others pieces are same = record {
  each = All-permutation IsGroup groups others same are.each;
  grouped = λ piece there.
      (let found = are.grouped piece there in
      (found.0, Contains-permutation groups others found.0 same found.1, found.2));
  within = All-permutation (λ (group : GroupValue). AreIn group.pieces pieces) groups others same are.within;
}
