-- One more group of those that begin here is tried.
use Rattle.std.proofs.Common.{◌≡◌, ℕ, ◌+◌, ◌<◌, List, [], ◌∷◌, ◌++◌, length, get_or, take, filter, Contains, sym, subst}
use Rattle.path_verifier.specs.Piece.{PieceValue, ends_in, kind_of}
use Rattle.path_verifier.specs.Accepted.{MayAdjoin, NamesOnce}
use Rattle.combinator.specs.Candidate.{Question}
use Rattle.path_verifier.specs.Header.{total_hops}
use Rattle.path_verifier.specs.Walk.{walk_of}
use Rattle.combinator.specs.inner.Group.{GroupValue, IsGroup, begins_with, heads_of}
use Rattle.combinator.specs.inner.Over.{AreFor, MaySearch, OfChoices, OfEachOver}
use Rattle.combinator.proofs.Over.{group_there}
use Rattle.combinator.proofs.Passing.{HoldsWithout, barred, behind_end, elsewhere, too_many, twice}
use Rattle.combinator.proofs.Trying.{WasTriedOver, none_tried, of_part, tried_here, tried_more}

module _ (question : Question) (groups : List GroupValue) (search : MaySearch question groups)
    (front : List GroupValue) (front_for : AreFor question front) (left at : ℕ)
    (part : List GroupValue) (part_is : part ≡ filter (begins_with at) groups)
    (i : ℕ) (group : GroupValue) (within : i < length part) (item : group ≡ get_or part i group) where
  pub there : Contains groups group
  there = of_part groups part at i group part_is within item

  pub here_is : IsGroup group
  here_is = group_there IsGroup groups group search.are.each there

  -- the fact held of what was tried, and it holds of what is tried now
  module _ (before after : List PieceValue → Type 0) (without : HoldsWithout question after)
      (goes : (list : List GroupValue) → OfChoices before list → OfChoices after list)
      (tried : (one : GroupValue) → Contains (take i part) one → WasTriedOver (OfChoices before) groups left front at one) where
    abbrev pub WereTried : Type 0
    WereTried = (one : GroupValue) → Contains (take (i + 1) part) one
        → WasTriedOver (OfChoices after) groups left front at one

    pub one_tried : WasTriedOver (OfChoices after) groups left front at group → WereTried
    one_tried = tried_more (OfChoices before) (OfChoices after) groups part left front at i group within item goes tried

    -- the group is of a kind that may not follow
    pub barred_tried : (first : List GroupValue) (last : GroupValue) → front ≡ first ++ last ∷ []
        → ¬ (MayAdjoin (kind_of last.head) (kind_of group.head)) → WereTried
    barred_tried first last ends never =
        one_tried (barred question after without groups search.are.each front group front_for.are here_is first last ends never left at)

    -- with it there are more hop fields than a path may have
    pub too_many_tried : 64 < total_hops (heads_of (front ++ group ∷ [])) → WereTried
    too_many_tried many =
        one_tried (too_many question after without groups search.are.each front group front_for.are here_is many left at)

    -- with it an AS is passed twice
    pub twice_tried : ¬ (NamesOnce (walk_of (heads_of (front ++ group ∷ [])))) → WereTried
    twice_tried never =
        one_tried (twice question after without groups search.are.each front group front_for.are here_is never left at)

    -- it ends in the destination
    pub end_tried : ends_in group.head ≡ question.dst → (longer : List GroupValue) → longer ≡ front ++ group ∷ []
        → OfChoices after longer → WereTried
    end_tried ends longer same here = one_tried (λ begins. (
      subst (OfChoices after) same here,
      behind_end question after without groups search.are.each front group front_for.are here_is ends left (ends_in group.head),
    ))

    -- it ends elsewhere, and no more pieces may follow, or those that follow were tried
    module _ (apart : ¬ (ends_in group.head ≡ question.dst)) where
      pub last_tried : left ≡ 0 → WereTried
      last_tried none = one_tried (λ begins. (
        elsewhere question after without groups search.are.each front group front_for.are here_is apart,
        none_tried (OfChoices after) groups left (front ++ group ∷ []) (ends_in group.head) none,
      ))

      pub further_tried : (longer : List GroupValue) → longer ≡ front ++ group ∷ [] → (end : ℕ) → end ≡ ends_in group.head
          → OfEachOver (OfChoices after) groups left longer end → WereTried
      further_tried longer same end ends behind =
          one_tried (tried_here (OfChoices after) groups left front longer group end at same ends
          (subst (OfChoices after) (sym same) (elsewhere question after without groups search.are.each front group front_for.are here_is apart))
          behind)
