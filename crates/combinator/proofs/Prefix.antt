-- The walk of pieces begins with the walk of the first ones, but for its last way out.
use Rattle.std.proofs.Common.{◌≡◌, ℕ, zero, suc, List, [], ◌∷◌, ◌++◌, length, map, take, All, refl, sym, ap, subst, ◌∙◌, append-nil, append_assoc}
use Rattle.std.specs.List.{fold, AllByRecursion}
use Rattle.std.proofs.lemmas.List.{map-append}
use Rattle.policy_expr.specs.declared.hop.WalkHop.{WalkHop}
use Rattle.path_verifier.specs.Piece.{PieceValue, ends_in}
use Rattle.path_verifier.specs.Walk.{hops_of, left_by, entered_by, walk_with, walk_of}
use Rattle.path_verifier.specs.Accepted.{NamesOnce}
use Rattle.path_verifier.proofs.Going.{once_shortened}
use Rattle.path_verifier.proofs.Hops.{length_left_by}
use Rattle.combinator.specs.Candidate.{Question, PathValue}
use Rattle.combinator.specs.inner.Search.{IsNoBetter}
use Rattle.combinator.specs.inner.Group.{heads_of, GroupValue, IsGroup}
use Rattle.combinator.specs.inner.Over.{OfEachOver, OfChoices}
use Rattle.combinator.proofs.Joined.{closed, closed_left, left_left, left_append, entered_front, walk_alike}
use Rattle.combinator.proofs.Choices.{heads_alike}
use Rattle.combinator.proofs.Over.{group_there}

pub fold_append : (walk : List WalkHop) (hs gs : List (List WalkHop))
    → fold walk_with walk (hs ++ gs) ≡ fold walk_with (fold walk_with walk hs) gs
fold_append walk [] gs = refl
fold_append walk (h ∷ hs) gs = fold_append (walk_with walk h) hs gs

-- hops before the last stay as they are
fold_cons : (hop next : WalkHop) (later : List WalkHop) (hs : List (List WalkHop))
    → fold walk_with (hop ∷ next ∷ later) hs ≡ hop ∷ fold walk_with (next ∷ later) hs
fold_cons hop next later [] = refl
fold_cons hop next later ([] ∷ hs) = fold_cons hop next later hs
fold_cons hop next [] ((first ∷ rest) ∷ hs) = fold_cons hop (record next { egress = first.egress }) rest hs
fold_cons hop next (third ∷ later) ((first ∷ rest) ∷ hs) =
    fold_cons hop next (left_by first.egress (third ∷ later) ++ rest) hs

fold_single : (hop : WalkHop) (hs : List (List WalkHop))
    → (way : ℕ) × (more : List WalkHop) × (fold walk_with (hop ∷ []) hs ≡ record hop { egress = way } ∷ more)
fold_single hop [] = (hop.egress, [], refl)
fold_single hop ([] ∷ hs) = fold_single hop hs
fold_single hop ((first ∷ []) ∷ hs) = fold_single (record hop { egress = first.egress }) hs
fold_single hop ((first ∷ next ∷ later) ∷ hs) =
    (first.egress, fold walk_with (next ∷ later) hs, fold_cons (record hop { egress = first.egress }) next later hs)

fold_front : (first : WalkHop) (rest : List WalkHop) (hs : List (List WalkHop))
    → (way : ℕ) × (more : List WalkHop) × (fold walk_with (first ∷ rest) hs ≡ left_by way (first ∷ rest) ++ more)
fold_front first [] hs = fold_single first hs
fold_front first (next ∷ rest) hs =
    let behind = fold_front next rest hs in
    (behind.0, behind.1, fold_cons first next rest hs ∙ ap (λ walk. first ∷ walk) behind.2)

take_front : {A : Type 0} (xs ys : List A) → take (length xs) (xs ++ ys) ≡ xs
take_front [] ys = refl
take_front (x ∷ xs) ys = ap (λ zs. x ∷ zs) (take_front xs ys)

take_all : {A : Type 0} (xs : List A) → take (length xs) xs ≡ xs
take_all [] = refl
take_all (x ∷ xs) = ap (λ zs. x ∷ zs) (take_all xs)

closed_front : (way : ℕ) (first : WalkHop) (rest more : List WalkHop)
    → left_by 0 (take (length (closed (first ∷ rest))) (closed (left_by way (first ∷ rest) ++ more))) ≡ closed (first ∷ rest)
closed_front way first rest [] =
    ap (λ hs. left_by 0 (take (length (closed (first ∷ rest))) (closed hs))) (append-nil (left_by way (first ∷ rest)))
    ∙ ap (λ hs. left_by 0 (take (length (closed (first ∷ rest))) hs)) (closed_left way (first ∷ rest))
    ∙ ap (left_by 0) (take_all (closed (first ∷ rest)))
    ∙ left_left 0 0 (entered_by 0 (first ∷ rest))
closed_front way first rest (next ∷ more) =
    let own = record first { ingress = 0 } ∷ rest in
    let many : length (closed (first ∷ rest)) ≡ length (left_by way own) = length_left_by 0 own ∙ sym (length_left_by way own) in
    ap (λ hs. left_by 0 (take (length (closed (first ∷ rest))) (left_by 0 hs))) (entered_front 0 way first rest (next ∷ more))
    ∙ ap (λ hs. left_by 0 (take (length (closed (first ∷ rest))) hs)) (left_append 0 (left_by way own) next more)
    ∙ ap (λ n. left_by 0 (take n (left_by way own ++ left_by 0 (next ∷ more)))) many
    ∙ ap (left_by 0) (take_front (left_by way own) (left_by 0 (next ∷ more)))
    ∙ left_left 0 way own

closed_prefix : (walk : List WalkHop) (hs : List (List WalkHop))
    → left_by 0 (take (length (closed walk)) (closed (fold walk_with walk hs))) ≡ closed walk
closed_prefix [] hs = refl
closed_prefix (first ∷ rest) hs =
    let front = fold_front first rest hs in
    ap (λ walk. left_by 0 (take (length (closed (first ∷ rest))) (closed walk))) front.2
    ∙ closed_front front.0 first rest front.1

-- the walk of the first pieces is the first part of the walk of all, with the last way out set to 0
pub walk_prefix : (front later : List PieceValue)
    → left_by 0 (take (length (walk_of front)) (walk_of (front ++ later))) ≡ walk_of front
unfolding walk_of
walk_prefix front later =
    let walk = fold walk_with [] (map hops_of front) in
    ap (λ hs. left_by 0 (take (length (closed walk)) (closed (fold walk_with [] hs)))) (map-append hops_of front later)
    ∙ ap (λ hs. left_by 0 (take (length (closed walk)) (closed hs))) (fold_append [] (map hops_of front) (map hops_of later))
    ∙ closed_prefix walk (map hops_of later)

-- where the walk of all passes no AS twice, that of the first ones does not
pub once_prefix : (front later : List PieceValue) → NamesOnce (walk_of (front ++ later)) → NamesOnce (walk_of front)
once_prefix front later once =
    subst NamesOnce (walk_prefix front later) (once_shortened 0 (length (walk_of front)) (walk_of (front ++ later)) once)

-- where the walk of the first pieces is not the first part of a walk, that is the walk of no list
-- that begins with them
pub apart_later : (front later : List PieceValue) (walk : List WalkHop)
    → ¬ (left_by 0 (take (length (walk_of front)) walk) ≡ walk_of front) → ¬ (walk_of (front ++ later) ≡ walk)
apart_later front later walk never same =
    never (ap (λ hs. left_by 0 (take (length (walk_of front)) hs)) (sym same) ∙ walk_prefix front later)

-- ---- the same of groups

pub both_groups : (front later : List GroupValue) → AllByRecursion IsGroup front → AllByRecursion IsGroup later
    → AllByRecursion IsGroup (front ++ later)
both_groups [] later are also = also
both_groups (group ∷ front) later are also = (are.0, both_groups front later are.1 also)

pub over_all : (P : List GroupValue → Type 0) (groups : List GroupValue) → All IsGroup groups
    → (depth : ℕ) (front : List GroupValue) (at : ℕ)
    → ((group : GroupValue) (later : List GroupValue) → AllByRecursion IsGroup (group ∷ later) → P (front ++ group ∷ later))
    → OfEachOver P groups depth front at
unfolding OfEachOver
over_all P groups are zero front at all = tt
over_all P groups are (suc depth) front at all = λ group there begins. (
  all group [] (group_there IsGroup groups group are there, tt),
  over_all P groups are depth (front ++ group ∷ []) (ends_in group.head)
      (λ next later also. subst P (sym (append_assoc front (group ∷ []) (next ∷ later)))
      (all group (next ∷ later) (group_there IsGroup groups group are there, also))),
)

module _ (question : Question) (found : PathValue) (front : List GroupValue) (are_front : AllByRecursion IsGroup front)
    (never : ¬ (left_by 0 (take (length (walk_of (heads_of front))) (walk_of found.pieces)) ≡ walk_of (heads_of front))) where
  apart_groups : (later : List GroupValue) → AllByRecursion IsGroup later → OfChoices (IsNoBetter question found) (front ++ later)
  unfolding IsNoBetter
  apart_groups later also = λ pieces of header is same.
      absurd (apart_later (heads_of front) (heads_of later) (walk_of found.pieces) never
      (ap walk_of (sym (map-append (λ (group : GroupValue). group.head) front later))
      ∙ walk_alike (heads_of (front ++ later)) pieces (heads_alike (front ++ later) pieces (both_groups front later are_front also) of) ∙ same))

  -- so no list of groups that begins with these is better
  pub passed_over : (groups : List GroupValue) → All IsGroup groups → (depth at : ℕ)
      → OfChoices (IsNoBetter question found) front × OfEachOver (OfChoices (IsNoBetter question found)) groups depth front at
  passed_over groups are depth at = (
    subst (OfChoices (IsNoBetter question found)) (append-nil front) (apart_groups [] tt),
    over_all (OfChoices (IsNoBetter question found)) groups are depth front at
        (λ group later also. apart_groups (group ∷ later) also),
  )
