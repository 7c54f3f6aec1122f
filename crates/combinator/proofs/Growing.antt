-- The walk of groups goes on by one group more, and back.
use Rattle.std.proofs.Common.{◌≡◌, ℕ, ◌+◌, ◌≤◌, Bool, true, false, List, [], ◌∷◌, ◌++◌, length, map, take, sym, ap, subst, ◌∙◌, arith}
use Rattle.std.specs.Prelude.{◌↔◌, IsTrue}
use Rattle.std.specs.List.{fold}
use Rattle.std.proofs.lemmas.List.{map-append}
use Rattle.std.proofs.lemmas.List.Sums.{sum_by-cons}
use Rattle.policy_expr.specs.declared.hop.WalkHop.{WalkHop}
use Rattle.path_verifier.specs.Piece.{PieceValue}
use Rattle.path_verifier.specs.Accepted.{NamesOnce}
use Rattle.path_verifier.specs.Header.{len_of, total_hops}
use Rattle.path_verifier.specs.Walk.{entered_by, hops_of, left_by, walk_of, walk_with}
use Rattle.path_verifier.proofs.Lengths.{walk_is_short}
use Rattle.combinator.specs.inner.Group.{GroupValue, heads_of}
use Rattle.combinator.proofs.Joined.{closed, closed_closed, joined_closed}
use Rattle.combinator.proofs.Prefix.{fold_append, walk_prefix}

-- joining looks at a walk with closed ends alone
joined_again : (walk hops : List WalkHop) → closed (walk_with (closed walk) hops) ≡ closed (walk_with walk hops)
joined_again walk hops =
    joined_closed (closed walk) hops
    ∙ ap (λ (w : List WalkHop). closed (walk_with w (closed hops))) (closed_closed walk)
    ∙ sym (joined_closed walk hops)

grown_by : (front : List PieceValue) (piece : PieceValue)
    → closed (walk_with (walk_of front) (hops_of piece)) ≡ walk_of (front ++ piece ∷ [])
unfolding walk_of
grown_by front piece =
    let walk = fold walk_with [] (map hops_of front) in
    joined_again walk (hops_of piece)
    ∙ ap closed (sym (fold_append [] (map hops_of front) (hops_of piece ∷ [])))
    ∙ ap (λ (hs : List (List WalkHop)). closed (fold walk_with [] hs)) (sym (map-append hops_of front (piece ∷ [])))

-- a walk of no hops passes no AS twice
pub none_named : NamesOnce []
none_named j k one other at_j at_k same = absurd cc

module _ (front : List GroupValue) (group : GroupValue) (longer : List GroupValue) (is : longer ≡ front ++ group ∷ [])
    (walk : List WalkHop) (own : walk ≡ walk_of (heads_of front)) where
  heads : heads_of longer ≡ heads_of front ++ group.head ∷ []
  heads = ap heads_of is ∙ map-append (λ (g : GroupValue). g.head) front (group ∷ [])

  pub grown : (piece : PieceValue) → piece ≡ group.head
      → left_by 0 (entered_by 0 (walk_with walk (hops_of piece))) ≡ walk_of (heads_of longer)
  grown piece same =
      ap (λ (w : List WalkHop). closed (walk_with w (hops_of piece))) own
      ∙ ap (λ (p : PieceValue). closed (walk_with (walk_of (heads_of front)) (hops_of p))) same
      ∙ grown_by (heads_of front) group.head
      ∙ sym (ap walk_of heads)

  -- where it is answered that an AS is passed twice, one is
  pub not_once : (more : List WalkHop) → more ≡ walk_of (heads_of longer) → (answer : Bool) → answer ≡ false
      → (IsTrue answer ↔ NamesOnce more) → ¬ (NamesOnce (walk_of (heads_of longer)))
  not_once more are answer is_false tells once =
      let yes = tells.1 (subst NamesOnce (sym are) once) in
      let clash : true ≡ false = sym yes ∙ is_false in
      cc

  -- shortened, it is what it was
  pub restored : (more : List WalkHop) (len : ℕ) → more ≡ walk_of (heads_of longer) → len ≡ length walk
      → left_by 0 (take len more) ≡ walk
  restored more len are long =
      ap (λ (n : ℕ). left_by 0 (take n more)) (long ∙ ap (λ (w : List WalkHop). length w) own)
      ∙ ap (λ (w : List WalkHop). left_by 0 (take (length (walk_of (heads_of front))) w)) (are ∙ ap walk_of heads)
      ∙ walk_prefix (heads_of front) (group.head ∷ [])
      ∙ sym own

  -- there is room for its hops
  pub roomy : total_hops (heads_of longer) ≤ 64 → (piece : PieceValue) → piece ≡ group.head → length walk + len_of piece ≤ 64
  roomy few piece same =
      let short = walk_is_short (heads_of front) in
      let long = ap (λ (w : List WalkHop). length w) own in
      let all = total_push (heads_of front) in
      let also = ap (λ (ps : List PieceValue). total_hops ps) heads in
      let one = ap len_of same in
      omega (arith, few, short, long, all, also, one)
    where
      total_push : (pieces : List PieceValue) → total_hops (pieces ++ group.head ∷ []) ≡ total_hops pieces + len_of group.head
      total_push [] = (let one = sum_by-cons len_of group.head [] in omega (arith, one))
      total_push (first ∷ pieces) =
          let more = total_push pieces in
          let one = sum_by-cons len_of first (pieces ++ group.head ∷ []) in
          let two = sum_by-cons len_of first pieces in
          omega (arith, more, one, two)
