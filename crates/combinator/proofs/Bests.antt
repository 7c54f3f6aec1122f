-- The best choice from one to three groups.
use Rattle.std.proofs.Common.{◌≡◌, ℕ, ◌≤◌, List, [], ◌∷◌, min, Contains, sym, subst, inl, inr, arith}
use Rattle.std.proofs.lemmas.Bool.{cases_lt}
use Rattle.path_verifier.specs.Piece.{PieceValue}
use Rattle.combinator.specs.inner.Group.{GroupValue, IsGroup, IsOver, IsOneOver, HasOneTo, IsLeastUntil, IsBestOf}
use Rattle.path_verifier.specs.Header.{len_of}
use Rattle.combinator.proofs.Alike.{len_alike}
use Rattle.combinator.proofs.Choices.{last_less, one_group}

-- the earlier of two moments
over_more : (group : GroupValue) (groups : List GroupValue) (m n : ℕ) → IsOver m group → IsOneOver n groups
    → IsOneOver (min m n) (group ∷ groups)
over_more group groups m n over later = elim (cases_lt m n) [
  | inl less ↦ (let same : m ≡ min m n = omega (arith, less) in inl (subst (λ (k : ℕ). IsOver k group) same over))
  | inr upto ↦ (let same : n ≡ min m n = omega (arith, upto) in inr (subst (λ (k : ℕ). IsOneOver k groups) same later))
]

pub one_to : (group : GroupValue) (half later : ℕ) → HasOneTo later group → half ≤ later → HasOneTo half group
one_to group half later some upto = (some.0, some.1, last_less half later (some.0 ∷ []) upto some.2)

pub best_one : (group : GroupValue) (piece : PieceValue) (m : ℕ) → IsOver m group → IsLeastUntil m group piece
    → IsBestOf (group ∷ []) (piece ∷ [])
best_one group piece m over least = record { half = m; over = inl over; least = (least, tt) }

pub best_two : (group next : GroupValue) (piece other : PieceValue) (m n half : ℕ) → half ≡ min m n → IsOver m group → IsOver n next
    → IsLeastUntil half group piece → IsLeastUntil half next other
    → IsBestOf (group ∷ next ∷ []) (piece ∷ other ∷ [])
best_two group next piece other m n half is over also first second = record {
  half = half;
  over = subst (λ (k : ℕ). IsOneOver k (group ∷ next ∷ [])) (sym is) (over_more group (next ∷ []) m n over (inl also));
  least = (first, (second, tt));
}

pub best_three : (group next last : GroupValue) (piece other third : PieceValue) (m n k later half : ℕ) → half ≡ min m later → later ≡ min n k
    → IsOver m group → IsOver n next → IsOver k last
    → IsLeastUntil half group piece → IsLeastUntil half next other → IsLeastUntil half last third
    → IsBestOf (group ∷ next ∷ last ∷ []) (piece ∷ other ∷ third ∷ [])
best_three group next last piece other third m n k later half is more over also too first second three = record {
  half = half;
  over = subst (λ (j : ℕ). IsOneOver j (group ∷ next ∷ last ∷ [])) (sym is)
      (over_more group (next ∷ last ∷ []) m later over
      (subst (λ (j : ℕ). IsOneOver j (next ∷ last ∷ [])) (sym more) (over_more next (last ∷ []) n k also (inl too))));
  least = (first, (second, (three, tt)));
}

pub same_len_in : (group : GroupValue) → IsGroup group → (one other : PieceValue) → Contains group.pieces one → Contains group.pieces other
    → len_of one ≡ len_of other
same_len_in group is one other first second = len_alike one other (one_group group one other is first second)
