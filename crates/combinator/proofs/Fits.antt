-- Whether a walk goes on by the hops of a piece.
use Rattle.std.proofs.Common.{◌≡◌, ℕ, zero, suc, ◌+◌, ◌<◌, List, [], ◌∷◌, ◌++◌, length, take, Contains, refl, sym, ap, subst, ◌∙◌, inl, inr, arith, append_assoc, zero-add, suc-add}
use Rattle.std.specs.Prelude.{◌⊎◌}
use Rattle.std.specs.List.{flat_map}
use Rattle.std.proofs.lemmas.List.{append_cancel_left}
use Rattle.policy_expr.specs.declared.hop.WalkHop.{WalkHop}
use Rattle.path_verifier.specs.Piece.{PieceValue, HasRange}
use Rattle.path_verifier.specs.Walk.{hops_of, left_by, walk_of}
use Rattle.path_verifier.proofs.Hops.{length_left_by}
use Rattle.combinator.specs.inner.Group.{GroupValue}
use Rattle.combinator.specs.inner.Over.{AreGrouped}
use Rattle.combinator.proofs.Joined.{left_left, left_append}
use Rattle.combinator.proofs.Longer.{walk_push}

take_over : {A : Type 0} (xs ys : List A) (k : ℕ) → take (length xs + k) (xs ++ ys) ≡ xs ++ take k ys
take_over [] ys k = rw zero-add refl
take_over (x ∷ xs) ys k = rw suc-add (ap (λ zs. x ∷ zs) (take_over xs ys k))

module _ (first : PieceValue) (front : List PieceValue) (piece : PieceValue) (hop next : WalkHop) (later : List WalkHop)
    (range : HasRange first) (are : hops_of piece ≡ hop ∷ next ∷ later)
    (past rest : List WalkHop) (here : WalkHop) (begun : left_by 0 (past ++ here ∷ []) ≡ walk_of (first ∷ front)) where
  pushed : walk_of ((first ∷ front) ++ piece ∷ []) ≡ past ++ record here { egress = hop.egress } ∷ left_by 0 (next ∷ later)
  pushed =
      walk_push first front piece hop next later range are
      ∙ ap (λ hs. left_by hop.egress hs ++ left_by 0 (next ∷ later)) (sym begun)
      ∙ ap (λ hs. hs ++ left_by 0 (next ∷ later)) (left_left hop.egress 0 (past ++ here ∷ []) ∙ left_append hop.egress past here [])
      ∙ append_assoc past (record here { egress = hop.egress } ∷ []) (left_by 0 (next ∷ later))

  on_taken : (taken : List WalkHop) → 0 < length taken → left_by 0 (past ++ here ∷ taken) ≡ past ++ here ∷ left_by 0 taken
  on_taken [] some = absurd (omega (arith, some))
  on_taken (one ∷ taken) some = left_append 0 past here (one ∷ taken)

  -- it does where the ways out agree and the later hops do, but for the last way out
  pub fits : here.egress ≡ hop.egress → left_by 0 (take (length (next ∷ later)) rest) ≡ left_by 0 (next ∷ later)
      → left_by 0 (take (length past + suc (length (next ∷ later))) (past ++ here ∷ rest)) ≡ walk_of ((first ∷ front) ++ piece ∷ [])
  fits way same =
      let taken = take (length (next ∷ later)) rest in
      let one = length_left_by 0 taken in
      let two = length_left_by 0 (next ∷ later) in
      let three = ap (λ (hs : List WalkHop). length hs) same in
      ap (left_by 0) (take_over past (here ∷ rest) (suc (length (next ∷ later))))
      ∙ on_taken taken (omega (arith, one, two, three))
      ∙ ap (λ hs. past ++ here ∷ hs) same
      ∙ ap (λ (n : ℕ). past ++ record here { egress = n } ∷ left_by 0 (next ∷ later)) way
      ∙ sym pushed

  -- and else it does not
  pub fits_only : left_by 0 (take (length past + suc (length (next ∷ later))) (past ++ here ∷ rest)) ≡ walk_of ((first ∷ front) ++ piece ∷ [])
      → 0 < length rest
      → (here.egress ≡ hop.egress) × (left_by 0 (take (length (next ∷ later)) rest) ≡ left_by 0 (next ∷ later))
  fits_only same some =
      let taken = take (length (next ∷ later)) rest in
      let whole : past ++ here ∷ left_by 0 taken ≡ past ++ record here { egress = hop.egress } ∷ left_by 0 (next ∷ later) =
      sym (on_taken taken (some_taken rest some)) ∙ sym (ap (left_by 0) (take_over past (here ∷ rest) (suc (length (next ∷ later))))) ∙ same ∙ pushed in
      let parts = append_cancel_left past (here ∷ left_by 0 taken) (record here { egress = hop.egress } ∷ left_by 0 (next ∷ later)) whole in
      (cc, cc)
    where
      some_taken : (rest : List WalkHop) → 0 < length rest → 0 < length (take (length (next ∷ later)) rest)
      some_taken [] some = absurd (omega (arith, some))
      some_taken (one ∷ rest) some = omega arith

-- ---- making groups

either_part : (front later : List PieceValue) (piece : PieceValue) → Contains (front ++ later) piece → Contains front piece ⊎ Contains later piece
either_part [] later piece there = inr there
either_part (one ∷ front) later piece (zero, within, at) = inl (0, omega arith, at)
either_part (one ∷ front) later piece (suc k, within, at) = elim (either_part front later piece (k, omega (arith, within), at)) [
  | inl there ↦ inl (suc there.0, (let here = there.1 in omega (arith, here)), there.2)
  | inr there ↦ inr there
]

-- where the pieces of groups, one after another, are all pieces, each piece is in a group
pub all_grouped : (groups : List GroupValue) (usable_pieces : List PieceValue)
    → flat_map (λ (group : GroupValue). group.pieces) groups ≡ usable_pieces → AreGrouped groups usable_pieces
all_grouped groups usable_pieces same = λ piece there. in_one groups piece (subst (λ (ps : List PieceValue). Contains ps piece) (sym same) there)
  where
    in_one : (groups : List GroupValue) (piece : PieceValue) → Contains (flat_map (λ (group : GroupValue). group.pieces) groups) piece
        → (group : GroupValue) × Contains groups group × Contains group.pieces piece
    in_one [] piece there = absurd (let within = there.1 in omega (arith, within))
    in_one (group ∷ groups) piece there = elim (either_part group.pieces (flat_map (λ (g : GroupValue). g.pieces) groups) piece there) [
      | inl here ↦ (group, (0, omega arith, refl), here)
      | inr behind ↦
          (let more = in_one groups piece behind in
          (more.0, (suc more.1.0, (let within = more.1.1 in omega (arith, within)), more.1.2), more.2))
    ]
