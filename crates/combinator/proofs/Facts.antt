-- What the exits of the search's loops know, of groups.
use Rattle.std.proofs.Common.{◌≡◌, ℕ, ◌<◌, List, [], ◌∷◌, ◌++◌, length, map, All, refl, sym, ap, subst, ◌∙◌, arith}
use Rattle.std.specs.List.{AllByRecursion}
use Rattle.std.proofs.lemmas.List.{map-append}
use Rattle.path_header.specs.Value.{HeaderValue}
use Rattle.path_verifier.specs.declared.kind.PieceKind.{PieceKind}
use Rattle.path_verifier.specs.Piece.{PieceValue, kind_of, ends_in}
use Rattle.path_verifier.specs.Walk.{walk_of}
use Rattle.path_verifier.specs.Header.{total_hops}
use Rattle.path_verifier.specs.Accepted.{DoAdjoin, MayAdjoin, MakesPath, NamesOnce}
use Rattle.path_verifier.proofs.Breaches.{path_kept}
use Rattle.combinator.specs.Candidate.{Question, PathValue, IsCandidate, path_with}
use Rattle.combinator.specs.inner.Search.{IsMetBy, IsNoBetter}
use Rattle.combinator.specs.inner.Alike.{IsUsable, AreAlike}
use Rattle.combinator.specs.inner.Group.{heads_of, GroupValue, IsGroup, AreOf}
use Rattle.combinator.specs.inner.Over.{OfEachOver, OfChoices}
use Rattle.combinator.proofs.Joined.{walk_alike}
use Rattle.combinator.proofs.Alike.{kinds_alike, ends_alike, total_alike}
use Rattle.combinator.proofs.Choices.{heads_alike, of_group}
use Rattle.combinator.proofs.Prefix.{both_groups, once_prefix, over_all}
use Rattle.combinator.proofs.Longer.{walk_longer, nothing_behind}

-- no choice from these groups is a candidate
abbrev pub HaveNoCandidate : Question → List GroupValue → Type 0
HaveNoCandidate question groups = (pieces : List PieceValue) → AreOf groups pieces → (header : HeaderValue)
    → ¬ (IsCandidate question (path_with pieces header))

pub met_where_none : (question : Question) (limit : ℕ) (paths : List PathValue) (groups : List GroupValue)
    → HaveNoCandidate question groups → OfChoices (IsMetBy question limit paths) groups
unfolding IsMetBy
met_where_none question limit paths groups none = λ pieces of header is. absurd (none pieces of header is.candidate)

pub no_better_where_none : (question : Question) (found : PathValue) (groups : List GroupValue)
    → HaveNoCandidate question groups → OfChoices (IsNoBetter question found) groups
unfolding IsNoBetter
no_better_where_none question found groups none = λ pieces of header is same. absurd (none pieces of header is)

-- ---- kinds

adjoin_there : (front later : List PieceKind) (one next : PieceKind) → DoAdjoin (front ++ one ∷ next ∷ later) → MayAdjoin one next
adjoin_there [] later one next adjoin = adjoin.0
adjoin_there (first ∷ []) later one next adjoin = adjoin.1.0
adjoin_there (first ∷ second ∷ front) later one next adjoin = adjoin_there (second ∷ front) later one next adjoin.1

-- a group of a kind that may not follow is in no candidate
pub kinds_apart : (question : Question) (front later : List GroupValue) (one next : GroupValue)
    → AllByRecursion IsGroup (front ++ one ∷ next ∷ later) → ¬ (MayAdjoin (kind_of one.head) (kind_of next.head))
    → HaveNoCandidate question (front ++ one ∷ next ∷ later)
kinds_apart question front later one next are never = λ pieces of header is.
    let groups = front ++ one ∷ next ∷ later in
    let kinds : map kind_of (heads_of groups) ≡ map kind_of pieces = kinds_alike (heads_of groups) pieces (heads_alike groups pieces are of) in
    let parts : map kind_of (heads_of groups) ≡ map kind_of (heads_of front) ++ kind_of one.head ∷ kind_of next.head ∷ map kind_of (heads_of later) =
    ap (map kind_of) (map-append (λ (group : GroupValue). group.head) front (one ∷ next ∷ later))
    ∙ map-append kind_of (heads_of front) (one.head ∷ next.head ∷ heads_of later) in
    never (adjoin_there (map kind_of (heads_of front)) (map kind_of (heads_of later)) (kind_of one.head) (kind_of next.head)
    (subst DoAdjoin (sym kinds ∙ parts) (path_kept is.accepted).kinds))

-- groups with more hop fields than a path may have are in no candidate
pub too_long : (question : Question) (groups : List GroupValue) → AllByRecursion IsGroup groups → 64 < total_hops (heads_of groups)
    → HaveNoCandidate question groups
too_long question groups are long = λ pieces of header is.
    let few = (path_kept is.accepted).few in
    let same = total_alike (heads_of groups) pieces (heads_alike groups pieces are of) in
    omega (arith, long, few, same)

-- groups whose walk passes an AS twice are in no candidate
pub all_twice : (question : Question) (groups : List GroupValue) → AllByRecursion IsGroup groups
    → ¬ (NamesOnce (walk_of (heads_of groups))) → HaveNoCandidate question groups
all_twice question groups are never = λ pieces of header is.
    never (subst NamesOnce (sym (walk_alike (heads_of groups) pieces (heads_alike groups pieces are of))) (path_kept is.accepted).once)

-- nor are those that begin with such groups
pub named_twice : (question : Question) (front later : List GroupValue) → AllByRecursion IsGroup (front ++ later)
    → ¬ (NamesOnce (walk_of (heads_of front))) → HaveNoCandidate question (front ++ later)
named_twice question front later are never =
    all_twice question (front ++ later) are
    (λ once. never (once_prefix (heads_of front) (heads_of later)
    (subst NamesOnce (ap walk_of (map-append (λ (group : GroupValue). group.head) front later)) once)))

-- ---- the destination

pub split_of : (front groups : List GroupValue) (pieces : List PieceValue) → AreOf (front ++ groups) pieces
    → (ps : List PieceValue) × (qs : List PieceValue) × (pieces ≡ ps ++ qs) × AreOf front ps × AreOf groups qs
split_of [] groups pieces of = ([], pieces, refl, tt, of)
split_of (group ∷ front) groups [] of = absurd of
split_of (group ∷ front) groups (piece ∷ pieces) of =
    let more = split_of front groups pieces of.1 in
    (piece ∷ more.0, more.1, ap (λ (ps : List PieceValue). piece ∷ ps) more.2, (of.0, more.3), more.4)

ends_there : (question : Question) (one next : GroupValue) (later : List GroupValue) → IsGroup one → ends_in one.head ≡ question.dst
    → (ps qs : List PieceValue) → AreOf (one ∷ next ∷ later) qs
    → MakesPath (ps ++ qs) question.src question.dst question.set.moment → ⊥
ends_there question one next later is ends ps [] of path = absurd of
ends_there question one next later is ends ps (piece ∷ []) of path = absurd of.1
ends_there question one next later is ends ps (piece ∷ second ∷ qs) of path =
    nothing_behind ps qs piece second question.src question.dst question.set.moment path
    (sym (ends_alike one.head piece is.head.range (of_group IsUsable one.pieces piece is.usable of.0).range
    (of_group (AreAlike one.head) one.pieces piece is.alike of.0)) ∙ ends)

-- no candidate goes on from a group that ends in the destination
pub none_behind_end : (question : Question) (front later : List GroupValue) (one next : GroupValue) → IsGroup one
    → ends_in one.head ≡ question.dst → HaveNoCandidate question (front ++ one ∷ next ∷ later)
none_behind_end question front later one next is ends = λ pieces of header candidate.
    let parts = split_of front (one ∷ next ∷ later) pieces of in
    ends_there question one next later is ends parts.0 parts.1 parts.4
    (subst (λ (ps : List PieceValue). MakesPath ps question.src question.dst question.set.moment) parts.2 (path_kept candidate.accepted))

-- ---- walks of other lengths, in `has_better`

module _ (question : Question) (found : PathValue) where
  -- a list with a shorter walk is not better
  pub shorter : (front : List GroupValue) → AllByRecursion IsGroup front
      → ¬ (length (walk_of (heads_of front)) ≡ length (walk_of found.pieces)) → OfChoices (IsNoBetter question found) front
  unfolding IsNoBetter
  shorter front are never = λ pieces of header is same.
      absurd (never (ap length (walk_alike (heads_of front) pieces (heads_alike front pieces are of) ∙ same)))

  -- where the walk is whole, no longer list has it
  pub whole : (groups : List GroupValue) → All IsGroup groups → (front : List GroupValue) → AllByRecursion IsGroup front
      → length (walk_of (heads_of front)) ≡ length (walk_of found.pieces)
      → (depth at : ℕ) → OfEachOver (OfChoices (IsNoBetter question found)) groups depth front at
  whole groups are front fronts same depth at =
      over_all (OfChoices (IsNoBetter question found)) groups are depth front at
      (λ group later also. shorter (front ++ group ∷ later) (both_groups front (group ∷ later) fronts also)
      (λ equal.
      let more = walk_longer (heads_of front) (heads_of later) group.head also.0.head.range in
      let parts = ap (λ (ps : List PieceValue). length (walk_of ps)) (map-append (λ (g : GroupValue). g.head) front (group ∷ later)) in
      omega (arith, more, parts, equal, same)))
