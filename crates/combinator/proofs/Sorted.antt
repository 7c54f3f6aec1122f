-- The order of groups: what is sorted by it is sorted by the ASes in which groups begin.
use Rattle.std.proofs.Common.{◌≡◌, ℕ, ◌<◌, Bool, true, false, List, get_or, is_lt, refl, sym, ◌∙◌, inl, inr}
use Rattle.std.specs.Cmp.{IsTotalOrder, IsStrictWeakOrder}
use Rattle.std.specs.List.Sorted.{IsSortedBy, IsNonDecreasingBy}
use Rattle.std.specs.Ordering.{nat_cmp, ordering_then}
use Rattle.std.specs.declared.cmp.Ordering.{Ordering}
use Rattle.std.proofs.lemmas.Bool.{cases_lt, lt-ltb}
use Rattle.std.proofs.lemmas.Cmp.{nat_cmp_total, on_total, then_total}
use Rattle.std.proofs.lemmas.List.Sorted.{ranks_by, sorted_far}
use Rattle.path_verifier.specs.Piece.{PieceValue, begins_in}
use Rattle.combinator.specs.inner.Group.{GroupValue, group_begins}
use Rattle.combinator.specs.inner.UsablePieces.{rank_of, info_number, piece_cmp}

piece_total : IsTotalOrder piece_cmp
unfolding piece_cmp
piece_total =
    then_total (on_total (λ (piece : PieceValue). begins_in piece) nat_cmp_total)
    (then_total (on_total (λ (piece : PieceValue). rank_of piece) nat_cmp_total) (on_total (λ (piece : PieceValue). info_number piece) nat_cmp_total))

pub group_ranks : IsStrictWeakOrder (λ (one other : GroupValue). is_lt (piece_cmp one.head other.head))
group_ranks = ranks_by piece_total (λ (group : GroupValue). group.head)

less_first : (n m : ℕ) (later : Ordering) → n < m → is_lt (ordering_then (nat_cmp n m) later) ≡ true
less_first n m later less = rw (lt-ltb n m less) refl

begins_earlier : (one other : PieceValue) → begins_in one < begins_in other → is_lt (piece_cmp one other) ≡ true
unfolding piece_cmp
begins_earlier one other = less_first (begins_in one) (begins_in other) _

pub group_earlier : (one other : GroupValue) → group_begins one < group_begins other
    → is_lt (piece_cmp one.head other.head) ≡ true
group_earlier one other = begins_earlier one.head other.head

-- the order by the ASes in which groups begin alone
pub begins_ranks : IsStrictWeakOrder (λ (one other : GroupValue). is_lt (nat_cmp (group_begins one) (group_begins other)))
begins_ranks = ranks_by nat_cmp_total group_begins

pub begins_less : (one other : GroupValue) → group_begins one < group_begins other
    → is_lt (nat_cmp (group_begins one) (group_begins other)) ≡ true
begins_less one other less = rw (lt-ltb (group_begins one) (group_begins other) less) refl

-- an order that puts a group before those that begin in greater ASes
pub begins_rise : (R : GroupValue → GroupValue → Bool) → IsStrictWeakOrder R
    → ((one other : GroupValue) → group_begins one < group_begins other → R one other ≡ true)
    → (groups : List GroupValue) → IsSortedBy R groups → IsNonDecreasingBy group_begins groups
begins_rise R ranks earlier groups sorted i j d upward within =
    let one = get_or groups i d in
    let other = get_or groups j d in
    elim (cases_lt (group_begins other) (group_begins one)) [
      | inl less ↦ absurd
          (let both : true ≡ false = sym (earlier other one less) ∙ sorted_far R ranks groups sorted i j d upward within in cc)
      | inr upto ↦ upto
    ]
