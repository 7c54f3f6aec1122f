-- Trying lists of groups one by one.
use Rattle.std.proofs.Common.{◌≡◌, ℕ, zero, suc, ◌+◌, ◌<◌, ◌≤◌, List, [], ◌∷◌, ◌++◌, length, get_or, take, filter, All, Contains, refl, sym, ap, subst, eq-eqb, ◌∙◌, arith}
use Rattle.std.specs.List.{AllByRecursion}
use Rattle.std.proofs.lemmas.List.Elements.{All-contains_itself}
use Rattle.path_server.proofs.Members.{Contains-filter}
use Rattle.policy_expr.specs.declared.hop.WalkHop.{WalkHop}
use Rattle.path_verifier.specs.Piece.{PieceValue, begins_in, ends_in}
use Rattle.path_verifier.specs.Accepted.{AreLive}
use Rattle.path_verifier.specs.Walk.{left_by, walk_of}
use Rattle.combinator.specs.Candidate.{Question, IsOf, PathValue}
use Rattle.combinator.specs.inner.Group.{begins_with, group_begins, GroupValue, IsGroup, heads_of}
use Rattle.combinator.specs.inner.Over.{AreFor, MaySearch, OfEachOver, OfChoices}
use Rattle.combinator.specs.inner.Search.{IsNoBetter}
use Rattle.combinator.proofs.Choices.{of_group}
use Rattle.combinator.proofs.Collected.{at_end, by_items}
use Rattle.combinator.proofs.Facts.{shorter, whole}
use Rattle.combinator.proofs.Over.{group_there}
use Rattle.combinator.proofs.Prefix.{both_groups, passed_over}

pub over_on : (P Q : List GroupValue → Type 0) (groups : List GroupValue) (depth : ℕ) (front : List GroupValue) (at : ℕ)
    → ((list : List GroupValue) → P list → Q list) → OfEachOver P groups depth front at → OfEachOver Q groups depth front at
unfolding OfEachOver
over_on P Q groups zero front at goes all = tt
over_on P Q groups (suc depth) front at goes all = λ group there begins. (
  goes (front ++ group ∷ []) (all group there begins).0,
  over_on P Q groups depth (front ++ group ∷ []) (ends_in group.head) goes (all group there begins).1,
)

-- if this group begins here, it was tried, and what goes on from it
abbrev pub WasTriedOver : (List GroupValue → Type 0) → List GroupValue → ℕ → List GroupValue → ℕ → GroupValue → Type 0
WasTriedOver P groups depth front at group = begins_in group.head ≡ at
    → P (front ++ group ∷ []) × OfEachOver P groups depth (front ++ group ∷ []) (ends_in group.head)

was_tried_on : (P Q : List GroupValue → Type 0) (groups : List GroupValue) (depth : ℕ) (front : List GroupValue) (at : ℕ)
    → ((list : List GroupValue) → P list → Q list)
    → (group : GroupValue) → WasTriedOver P groups depth front at group → WasTriedOver Q groups depth front at group
was_tried_on P Q groups depth front at goes group was begins = (
  goes (front ++ group ∷ []) (was begins).0,
  over_on P Q groups depth (front ++ group ∷ []) (ends_in group.head) goes (was begins).1,
)

pub tried_here : (P : List GroupValue → Type 0) (groups : List GroupValue) (depth : ℕ) (front longer : List GroupValue) (group : GroupValue) (end at : ℕ)
    → longer ≡ front ++ group ∷ [] → end ≡ ends_in group.head → P longer
    → OfEachOver P groups depth longer end → WasTriedOver P groups depth front at group
tried_here P groups depth front longer group end at is ends here behind = λ begins. (
  subst P is here,
  subst (λ more. OfEachOver P groups depth more (ends_in group.head)) is (subst (OfEachOver P groups depth longer) ends behind),
)

pub tried_more : (P Q : List GroupValue → Type 0) (groups part : List GroupValue) (depth : ℕ) (front : List GroupValue) (at i : ℕ) (group : GroupValue)
    → i < length part → group ≡ get_or part i group → ((list : List GroupValue) → P list → Q list)
    → ((one : GroupValue) → Contains (take i part) one → WasTriedOver P groups depth front at one)
    → WasTriedOver Q groups depth front at group
    → (one : GroupValue) → Contains (take (i + 1) part) one → WasTriedOver Q groups depth front at one
tried_more P Q groups part depth front at i group within is goes =
    by_items (WasTriedOver P groups depth front at) (WasTriedOver Q groups depth front at) part i group within is
    (was_tried_on P Q groups depth front at goes)

pub none_tried : (P : List GroupValue → Type 0) (groups : List GroupValue) (depth : ℕ) (front : List GroupValue) (at : ℕ)
    → depth ≡ 0 → OfEachOver P groups depth front at
unfolding OfEachOver
none_tried P groups zero front at is = tt
none_tried P groups (suc depth) front at is = absurd (omega (arith, is))

each_tried : (P : List GroupValue → Type 0) (groups : List GroupValue) (depth left : ℕ) (front : List GroupValue) (at : ℕ)
    → left + 1 ≡ depth → ((group : GroupValue) → Contains groups group → WasTriedOver P groups left front at group)
    → OfEachOver P groups depth front at
unfolding OfEachOver
each_tried P groups zero left front at is all = tt
each_tried P groups (suc depth) left front at is all =
    let same : left ≡ depth = omega (arith, is) in
    subst (λ (n : ℕ). (group : GroupValue) → Contains groups group → WasTriedOver P groups n front at group) same all

-- where the groups that begin here were tried, all were
pub all_tried : (P : List GroupValue → Type 0) (groups part : List GroupValue) (depth left : ℕ) (front : List GroupValue) (at i : ℕ)
    → left + 1 ≡ depth → part ≡ filter (begins_with at) groups → length part ≤ i
    → ((one : GroupValue) → Contains (take i part) one → WasTriedOver P groups left front at one)
    → OfEachOver P groups depth front at
all_tried P groups part depth left front at i is same past tried =
    each_tried P groups depth left front at is
    (λ group there begins. at_end (WasTriedOver P groups left front at) part i past tried group
    (subst (λ (gs : List GroupValue). Contains gs group) (sym same)
    ((Contains-filter (begins_with at) groups group).1 (there, eq-eqb (group_begins group) at begins)))
    begins)

-- a group that begins here is one of all
pub of_part : (groups part : List GroupValue) (at i : ℕ) (group : GroupValue) → part ≡ filter (begins_with at) groups
    → i < length part → group ≡ get_or part i group → Contains groups group
of_part groups part at i group same within is =
    ((Contains-filter (begins_with at) groups group).0
    (subst (λ (gs : List GroupValue). Contains gs group) same (i, within, sym is))).0

-- these groups and one more are for the question
pub for_more : (question : Question) (groups : List GroupValue) (search : MaySearch question groups) (front longer : List GroupValue)
    (group : GroupValue) → Contains groups group → longer ≡ front ++ group ∷ [] → AreFor question front → AreFor question longer
for_more question groups search front longer group there is front_for = subst (AreFor question) (sym is) (record {
  are = both_groups front (group ∷ []) front_for.are (group_there IsGroup groups group search.are.each there, tt);
  live = with_one (λ (g : GroupValue). All (λ piece. AreLive question.set.moment (piece ∷ [])) g.pieces) front front_for.live
      (all_inside (λ piece. AreLive question.set.moment (piece ∷ [])) search.live);
  own = with_one (λ (g : GroupValue). All (IsOf question.set) g.pieces) front front_for.own (all_inside (IsOf question.set) search.own);
})
  where
    with_one : (P : GroupValue → Type 0) (groups : List GroupValue) → AllByRecursion P groups → P group → AllByRecursion P (groups ++ group ∷ [])
    with_one P [] all one = (one, tt)
    with_one P (g ∷ groups) all one = (all.0, with_one P groups all.1 one)

    inside : (piece : PieceValue) → Contains group.pieces piece → Contains search.usable_pieces piece
    inside = group_there (λ (g : GroupValue). (piece : PieceValue) → Contains g.pieces piece → Contains search.usable_pieces piece)
        groups group search.are.within there

    all_inside : (P : PieceValue → Type 0) → All P search.usable_pieces → All P group.pieces
    all_inside P all k d within =
        of_group P search.usable_pieces (get_or group.pieces k d) all
        (inside (get_or group.pieces k d) (All-contains_itself group.pieces k d within))

-- ---- the branches of `has_better`

module _ (question : Question) (found : PathValue) (groups : List GroupValue) (are : All IsGroup groups) (left : ℕ)
    (front longer : List GroupValue) (group : GroupValue) (at : ℕ) (longer_are : AllByRecursion IsGroup longer)
    (is : longer ≡ front ++ group ∷ []) (walk : List WalkHop) (own : walk ≡ walk_of found.pieces) where
  pub tried_not_fits : ¬ (left_by 0 (take (length (walk_of (heads_of longer))) walk) ≡ walk_of (heads_of longer))
      → WasTriedOver (OfChoices (IsNoBetter question found)) groups left front at group
  tried_not_fits never =
      let both = passed_over question found longer longer_are
      (subst (λ (hops : List WalkHop). ¬ (left_by 0 (take (length (walk_of (heads_of longer))) hops) ≡ walk_of (heads_of longer))) own never)
      groups are left (ends_in group.head) in
      tried_here (OfChoices (IsNoBetter question found)) groups left front longer group (ends_in group.head) at is refl both.0 both.1

  pub tried_whole : length (walk_of (heads_of longer)) ≡ length walk → OfChoices (IsNoBetter question found) longer
      → WasTriedOver (OfChoices (IsNoBetter question found)) groups left front at group
  tried_whole same here =
      tried_here (OfChoices (IsNoBetter question found)) groups left front longer group (ends_in group.head) at is refl here
      (whole question found groups are longer longer_are (same ∙ ap (λ (hops : List WalkHop). length hops) own) left (ends_in group.head))

  pub tried_part : ¬ (length (walk_of (heads_of longer)) ≡ length walk) → (end : ℕ) → end ≡ ends_in group.head
      → OfEachOver (OfChoices (IsNoBetter question found)) groups left longer end
      → WasTriedOver (OfChoices (IsNoBetter question found)) groups left front at group
  tried_part never end ends behind =
      tried_here (OfChoices (IsNoBetter question found)) groups left front longer group end at is ends
      (shorter question found longer longer_are (λ same. never (same ∙ ap (λ (hops : List WalkHop). length hops) (sym own)))) behind
