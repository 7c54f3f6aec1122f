-- Gathering the walks of lists of groups.
use Rattle.std.proofs.Common.{◌≡◌, ℕ, ◌<◌, List, [], ◌∷◌, ◌++◌, length, All, Contains, subst, inl, inr, arith}
use Rattle.std.specs.List.{AllByRecursion}
use Rattle.policy_expr.specs.declared.hop.WalkHop.{WalkHop}
use Rattle.path_verifier.specs.Walk.{walk_of}
use Rattle.combinator.specs.Candidate.{Question, PathValue, IsCandidate}
use Rattle.combinator.specs.Walks.{AreWalks}
use Rattle.combinator.specs.inner.Gathered.{AreGathered, HasWalk, IsListed, StillList}
use Rattle.combinator.specs.inner.Group.{GroupValue, IsGroup, heads_of}
use Rattle.combinator.specs.inner.Over.{MaySearch, OfChoices, OfEachOver}
use Rattle.combinator.proofs.Answering.{of_candidate}
use Rattle.combinator.proofs.Facts.{HaveNoCandidate}
use Rattle.combinator.proofs.Choices.{heads_alike}
use Rattle.combinator.proofs.Joined.{walk_alike}
use Rattle.combinator.proofs.Listing.{pairs_in_order}
use Rattle.combinator.proofs.Over.{to_pieces}
use Rattle.combinator.proofs.Prefix.{over_all}

module _ (question : Question) (limit : ℕ) where
  pub listed_where_none : (walks : List (List WalkHop)) (groups : List GroupValue)
      → HaveNoCandidate question groups → OfChoices (IsListed question limit walks) groups
  unfolding IsListed
  listed_where_none walks groups none = λ pieces of header is. absurd (none pieces of header is)

  pub listed_on : (old new : List (List WalkHop)) → StillList limit old new → (groups : List GroupValue)
      → OfChoices (IsListed question limit old) groups → OfChoices (IsListed question limit new) groups
  unfolding IsListed
  listed_on old new still groups listed = λ pieces of header is. still (walk_of pieces) (listed pieces of header is)

  -- all choices from groups have one walk
  pub listed_there : (walks : List (List WalkHop)) (groups : List GroupValue) → AllByRecursion IsGroup groups
      → Contains walks (walk_of (heads_of groups)) → OfChoices (IsListed question limit walks) groups
  unfolding IsListed
  listed_there walks groups are there = λ pieces of header is.
      inr (subst (Contains walks)
      (walk_alike (heads_of groups) pieces (heads_alike groups pieces are of)) there)

  pub listed_full : (walks : List (List WalkHop)) → length walks ≡ limit → (groups : List GroupValue)
      → OfChoices (IsListed question limit walks) groups
  unfolding IsListed
  listed_full walks full groups = λ pieces of header is. inl full

  pub all_full : (walks : List (List WalkHop)) → length walks ≡ limit → (groups : List GroupValue) → All IsGroup groups
      → (depth : ℕ) (front : List GroupValue) (at : ℕ)
      → OfEachOver (OfChoices (IsListed question limit walks)) groups depth front at
  all_full walks full groups are depth front at =
      over_all (OfChoices (IsListed question limit walks)) groups are depth front at
      (λ group later also. listed_full walks full (front ++ group ∷ later))

  -- what is listed stays so
  pub still_listed : (old new : List (List WalkHop)) → length old < limit
      → ((other : List WalkHop) → Contains old other → Contains new other) → StillList limit old new
  still_listed old new room others walk (inl full) = absurd (omega (arith, room, full))
  still_listed old new room others walk (inr there) = inr (others walk there)

  module _ (groups : List GroupValue) (search : MaySearch question groups) (walks : List (List WalkHop))
      (gathered : AreGathered question limit walks)
      (listed : OfEachOver (OfChoices (IsListed question limit walks)) groups 3 [] question.src) where
    each_has : (path : PathValue) → IsCandidate question path → HasWalk limit walks (walk_of path.pieces)
    unfolding IsListed
    each_has path candidate =
        of_candidate question search.usable_pieces search.whole (IsListed question limit walks)
        (to_pieces (IsListed question limit walks) groups search.usable_pieces search.are.each search.are.grouped 3 [] [] question.src tt listed)
        path candidate path.header candidate

    there : length walks < limit → (walk : List WalkHop) → HasWalk limit walks walk → Contains walks walk
    there room walk (inl full) = absurd (omega (arith, room, full))
    there room walk (inr is) = is

    pub are_walks : AreWalks question limit walks
    are_walks = record {
      each = gathered.each;
      ordered = pairs_in_order walks gathered.order;
      few = gathered.few;
      whole = λ room path candidate. there room (walk_of path.pieces) (each_has path candidate);
    }
