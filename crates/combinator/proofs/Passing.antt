-- Which lists of groups the search passes over.
use Rattle.std.proofs.Common.{◌≡◌, ℕ, ◌<◌, ◌≤◌, List, [], ◌∷◌, ◌++◌, length, All, refl, sym, ap, subst, ◌∙◌, arith, append_assoc}
use Rattle.std.specs.List.{AllByRecursion}
use Rattle.std.proofs.lemmas.List.Sums.{sum_by-cons}
use Rattle.path_verifier.specs.Piece.{PieceValue, ends_in, kind_of}
use Rattle.path_verifier.specs.Accepted.{DoEndIn, MayAdjoin, NamesOnce}
use Rattle.path_verifier.specs.Header.{len_of, total_hops}
use Rattle.path_verifier.specs.Walk.{walk_of}
use Rattle.path_verifier.proofs.Breaches.{path_kept}
use Rattle.combinator.specs.Candidate.{Question, PathValue}
use Rattle.combinator.specs.inner.Alike.{AreAlike, IsUsable}
use Rattle.combinator.specs.inner.Group.{GroupValue, IsGroup, AreOf, heads_of}
use Rattle.combinator.specs.inner.Over.{OfChoices, OfEachOver}
use Rattle.combinator.specs.inner.Search.{AreBefore, IsMetBy, StillMeet}
use Rattle.combinator.proofs.Alike.{ends_alike}
use Rattle.combinator.proofs.Before.{met_later}
use Rattle.combinator.proofs.Choices.{of_group}
use Rattle.combinator.proofs.Facts.{HaveNoCandidate, kinds_apart, named_twice, none_behind_end, split_of, too_long}
use Rattle.combinator.proofs.Prefix.{both_groups, over_all}
use Rattle.combinator.proofs.Tried.{ends_with, met_on, one_end}
use Rattle.combinator.proofs.Trying.{WasTriedOver}

-- what was met is met by more paths
pub choices_met_on : (question : Question) (limit : ℕ) (old new : List PathValue) → StillMeet limit old new
    → (groups : List GroupValue) → OfChoices (IsMetBy question limit old) groups → OfChoices (IsMetBy question limit new) groups
choices_met_on question limit old new still groups met = λ pieces of. met_on question limit old new still pieces (met pieces of)

module _ (P : List GroupValue → Type 0) (groups : List GroupValue) (are : All IsGroup groups)
    (front : List GroupValue) (group : GroupValue) where
  -- what holds of each list that begins with these groups and goes on
  pub each_longer : ((next : GroupValue) (later : List GroupValue) → AllByRecursion IsGroup (next ∷ later) → P (front ++ group ∷ next ∷ later))
      → (depth at : ℕ) → OfEachOver P groups depth (front ++ group ∷ []) at
  each_longer all depth at =
      over_all P groups are depth (front ++ group ∷ []) at
      (λ next later also. subst P (sym (append_assoc front (group ∷ []) (next ∷ later))) (all next later also))

  pub each_tried : ((later : List GroupValue) → AllByRecursion IsGroup later → P (front ++ group ∷ later))
      → (depth at : ℕ) → WasTriedOver P groups depth front at group
  each_tried all depth at = λ begins.
      (all [] tt, each_longer (λ next later also. all (next ∷ later) also) depth (ends_in group.head))

-- a fact that holds of the choices from groups that have no candidate
abbrev pub HoldsWithout : Question → (List PieceValue → Type 0) → Type 0
HoldsWithout question fact = (groups : List GroupValue) → HaveNoCandidate question groups → OfChoices fact groups

-- with more groups there are more hop fields
pub more_hops : (front later : List GroupValue) (group : GroupValue)
    → total_hops (heads_of (front ++ group ∷ [])) ≤ total_hops (heads_of (front ++ group ∷ later))
more_hops [] later group =
    let one = sum_by-cons len_of group.head [] in
    let all = sum_by-cons len_of group.head (heads_of later) in
    omega (arith, one, all)
more_hops (first ∷ front) later group =
    let one = sum_by-cons len_of first.head (heads_of (front ++ group ∷ [])) in
    let all = sum_by-cons len_of first.head (heads_of (front ++ group ∷ later)) in
    let more = more_hops front later group in
    omega (arith, one, all, more)

module _ (question : Question) (fact : List PieceValue → Type 0) (without : HoldsWithout question fact)
    (groups : List GroupValue) (are : All IsGroup groups)
    (front : List GroupValue) (group : GroupValue) (front_are : AllByRecursion IsGroup front) (is : IsGroup group) where
  -- a group of a kind that may not follow
  pub barred : (before : List GroupValue) (last : GroupValue) → front ≡ before ++ last ∷ []
      → ¬ (MayAdjoin (kind_of last.head) (kind_of group.head))
      → (depth at : ℕ) → WasTriedOver (OfChoices fact) groups depth front at group
  barred before last ends never =
      each_tried (OfChoices fact) groups are front group
      (λ later also.
      let same : front ++ group ∷ later ≡ before ++ last ∷ group ∷ later =
      ap (λ (gs : List GroupValue). gs ++ group ∷ later) ends ∙ append_assoc before (last ∷ []) (group ∷ later) in
      subst (OfChoices fact) (sym same)
      (without (before ++ last ∷ group ∷ later)
      (kinds_apart question before later last group
      (subst (AllByRecursion IsGroup) same (both_groups front (group ∷ later) front_are (is, also))) never)))

  -- groups with more hop fields than a path may have
  pub too_many : 64 < total_hops (heads_of (front ++ group ∷ [])) → (depth at : ℕ)
      → WasTriedOver (OfChoices fact) groups depth front at group
  too_many many =
      each_tried (OfChoices fact) groups are front group
      (λ later also. without (front ++ group ∷ later)
      (too_long question (front ++ group ∷ later) (both_groups front (group ∷ later) front_are (is, also))
      (let more = more_hops front later group in omega (arith, many, more))))

  -- groups whose walk passes an AS twice
  pub twice : ¬ (NamesOnce (walk_of (heads_of (front ++ group ∷ [])))) → (depth at : ℕ)
      → WasTriedOver (OfChoices fact) groups depth front at group
  twice never =
      each_tried (OfChoices fact) groups are front group
      (λ later also.
      let same : (front ++ group ∷ []) ++ later ≡ front ++ group ∷ later = append_assoc front (group ∷ []) later in
      subst (OfChoices fact) same (without ((front ++ group ∷ []) ++ later)
      (named_twice question (front ++ group ∷ []) later
      (subst (AllByRecursion IsGroup) (sym same) (both_groups front (group ∷ later) front_are (is, also))) never)))

  -- lists that go on from the destination
  pub behind_end : ends_in group.head ≡ question.dst → (depth at : ℕ)
      → OfEachOver (OfChoices fact) groups depth (front ++ group ∷ []) at
  behind_end ends =
      each_longer (OfChoices fact) groups are front group
      (λ next later also. without (front ++ group ∷ next ∷ later)
      (none_behind_end question front later group next is ends))

  -- a list that ends elsewhere
  pub elsewhere : ¬ (ends_in group.head ≡ question.dst) → OfChoices fact (front ++ group ∷ [])
  elsewhere apart = without (front ++ group ∷ []) (λ pieces of header candidate.
      let parts = split_of front (group ∷ []) pieces of in
      at parts.0 parts.1 parts.4
      (subst (DoEndIn question.dst) parts.2 (path_kept candidate.accepted).destination))
    where
      at : (ps qs : List PieceValue) → AreOf (group ∷ []) qs → DoEndIn question.dst (ps ++ qs) → ⊥
      at ps [] of ends = of
      at ps (piece ∷ []) of ends =
          apart (ends_alike group.head piece is.head.range (of_group IsUsable group.pieces piece is.usable of.0).range
          (of_group (AreAlike group.head) group.pieces piece is.alike of.0)
          ∙ one_end (ps ++ piece ∷ []) (ends_in piece) question.dst (ends_with ps piece) ends)
      at ps (piece ∷ next ∷ qs) of ends = of.1

module _ (question : Question) (limit : ℕ) (paths : List PathValue) (groups : List GroupValue) (are : All IsGroup groups)
    (front : List GroupValue) (group : GroupValue) (front_are : AllByRecursion IsGroup front) (is : IsGroup group) where
  -- lists that come behind all kept paths
  module _ (further : ℕ) (before : OfChoices (λ pieces. AreBefore limit paths pieces further) (front ++ group ∷ [])) where
    met_behind : (later : List GroupValue) → further ≤ length later → OfChoices (IsMetBy question limit paths) (front ++ group ∷ later)
    met_behind later many = λ pieces of.
        let parts = split_of (front ++ group ∷ []) later pieces
        (subst (λ (gs : List GroupValue). AreOf gs pieces) (sym (append_assoc front (group ∷ []) later)) of) in
        let long = as_many later parts.1 parts.4 in
        subst (IsMetBy question limit paths) (sym parts.2)
        (met_later question limit paths parts.0 further (before parts.0 parts.3) parts.1 (omega (arith, long, many)))
      where
        as_many : (gs : List GroupValue) (ps : List PieceValue) → AreOf gs ps → length ps ≡ length gs
        as_many [] [] of = refl
        as_many [] (p ∷ ps) of = absurd of
        as_many (g ∷ gs) [] of = absurd of
        as_many (g ∷ gs) (p ∷ ps) of = (let more = as_many gs ps of.1 in omega (arith, more))

    pub all_behind : further ≡ 0 → (depth at : ℕ) → WasTriedOver (OfChoices (IsMetBy question limit paths)) groups depth front at group
    all_behind none =
        each_tried (OfChoices (IsMetBy question limit paths)) groups are front group (λ later also. met_behind later (omega (arith, none)))

    pub longer_behind : further ≤ 1 → (depth at : ℕ)
        → OfEachOver (OfChoices (IsMetBy question limit paths)) groups depth (front ++ group ∷ []) at
    longer_behind few =
        each_longer (OfChoices (IsMetBy question limit paths)) groups are front group
        (λ next later also. met_behind (next ∷ later) (omega (arith, few)))
