-- Lists of pieces that are alike place by place make paths alike.
use Rattle.std.proofs.Common.{◌≡◌, ℕ, zero, suc, ◌+◌, ◌-◌, ◌<◌, List, [], ◌∷◌, ◌++◌, length, map, get_or, Any, refl, sym, ap, subst, ◌∙◌, inl, inr, arith}
use Rattle.std.specs.List.{AllByRecursion}
use Rattle.std.proofs.lemmas.Bool.{cases_lt}
use Rattle.std.proofs.lemmas.List.Elements.{All-from_recursion, recursion_from_All}
use Rattle.std.proofs.lemmas.List.Sums.{sum_by-cons}
use Rattle.policy_expr.specs.Policy.{Rules, AllowsHops, HasWord}
use Rattle.path_verifier.specs.Piece.{PieceValue, HasRange, kind_of, begins_in, ends_in}
use Rattle.path_verifier.specs.Header.{len_of, total_hops, header_of}
use Rattle.path_verifier.specs.Accepted.{IsCore, AreCutWell, DoAdjoin, DoMeet, DoBeginIn, DoEndIn, NamesOnce, AreLive, MakesPath, IsAccepted, request_of}
use Rattle.path_verifier.proofs.Breaches.{accepts, hops_kept, path_kept, word_kept}
use Rattle.path_verifier.proofs.Course.{ases, walk_begins, walk_ends}
use Rattle.path_verifier.proofs.Hops.{length_hops_of}
use Rattle.combinator.specs.inner.Alike.{AreAlike, AreAllAlike, IsUsable}
use Rattle.combinator.proofs.Joined.{walk_alike, length_alike_hops}

pub alike_turned : (one other : PieceValue) → AreAlike one other → AreAlike other one
alike_turned one other alike = record {
  kind = sym alike.kind;
  walk = sym alike.walk;
  first = (alike.first.1, alike.first.0);
}

pub all_alike_turned : (pieces others : List PieceValue) → AreAllAlike pieces others → AreAllAlike others pieces
all_alike_turned [] [] alike = tt
all_alike_turned [] (other ∷ others) alike = absurd alike
all_alike_turned (piece ∷ pieces) [] alike = absurd alike
all_alike_turned (piece ∷ pieces) (other ∷ others) alike =
    (alike_turned piece other alike.0, all_alike_turned pieces others alike.1)

pub alike_push : (pieces others : List PieceValue) (one other : PieceValue) → AreAllAlike pieces others → AreAlike one other
    → AreAllAlike (pieces ++ one ∷ []) (others ++ other ∷ [])
alike_push [] [] one other alike more = (more, tt)
alike_push [] (second ∷ others) one other alike more = absurd alike
alike_push (first ∷ pieces) [] one other alike more = absurd alike
alike_push (first ∷ pieces) (second ∷ others) one other alike more =
    (alike.0, alike_push pieces others one other alike.1 more)

pub begins_alike : (one other : PieceValue) → HasRange one → HasRange other → AreAlike one other
    → begins_in one ≡ begins_in other
begins_alike one other range also alike =
    sym (walk_begins (one ∷ []) (begins_in one) (range, tt) refl)
    ∙ ap (λ walk. get_or (ases walk) 0 0) alike.walk
    ∙ walk_begins (other ∷ []) (begins_in other) (also, tt) refl

pub ends_alike : (one other : PieceValue) → HasRange one → HasRange other → AreAlike one other
    → ends_in one ≡ ends_in other
ends_alike one other range also alike =
    sym (walk_ends (one ∷ []) (ends_in one) (range, tt) refl)
    ∙ ap (λ walk. get_or (ases walk) (length (ases walk) - 1) 0) alike.walk
    ∙ walk_ends (other ∷ []) (ends_in other) (also, tt) refl

pub len_alike : (one other : PieceValue) → AreAlike one other → len_of one ≡ len_of other
len_alike one other alike =
    sym (length_hops_of one) ∙ length_alike_hops one other alike ∙ length_hops_of other

pub lens_alike : (pieces others : List PieceValue) → AreAllAlike pieces others → map len_of pieces ≡ map len_of others
lens_alike [] [] alike = refl
lens_alike [] (other ∷ others) alike = absurd alike
lens_alike (piece ∷ pieces) [] alike = absurd alike
lens_alike (piece ∷ pieces) (other ∷ others) alike =
    let one = len_alike piece other alike.0 in
    let more = lens_alike pieces others alike.1 in
    ap (λ n. n ∷ map len_of pieces) one ∙ ap (λ ns. len_of other ∷ ns) more

pub total_alike : (pieces others : List PieceValue) → AreAllAlike pieces others → total_hops pieces ≡ total_hops others
total_alike [] [] alike = refl
total_alike [] (other ∷ others) alike = absurd alike
total_alike (piece ∷ pieces) [] alike = absurd alike
total_alike (piece ∷ pieces) (other ∷ others) alike =
    let one = len_alike piece other alike.0 in
    let more = total_alike pieces others alike.1 in
    let mine = sum_by-cons len_of piece pieces in
    let theirs = sum_by-cons len_of other others in
    omega arith

pub kinds_alike : (pieces others : List PieceValue) → AreAllAlike pieces others → map kind_of pieces ≡ map kind_of others
kinds_alike [] [] alike = refl
kinds_alike [] (other ∷ others) alike = absurd alike
kinds_alike (piece ∷ pieces) [] alike = absurd alike
kinds_alike (piece ∷ pieces) (other ∷ others) alike =
    ap (λ k. k ∷ map kind_of pieces) alike.0.kind ∙ ap (λ ks. kind_of other ∷ ks) (kinds_alike pieces others alike.1)

some_alike : (pieces others : List PieceValue) → AreAllAlike pieces others → 0 < length pieces → 0 < length others
some_alike [] [] alike some = some
some_alike [] (other ∷ others) alike some = absurd alike
some_alike (piece ∷ pieces) [] alike some = absurd alike
some_alike (piece ∷ pieces) (other ∷ others) alike some = omega arith

-- ---- cuts

core_alike : (pieces others : List PieceValue) → AreAllAlike pieces others → Any IsCore pieces → Any IsCore others
core_alike [] [] alike some = some
core_alike [] (other ∷ others) alike some = absurd alike
core_alike (piece ∷ pieces) [] alike some = absurd alike
core_alike (piece ∷ pieces) (other ∷ others) alike (zero, one, within, at, is) =
    (zero, other, omega arith, refl, sym alike.0.kind ∙ ap kind_of at ∙ is)
core_alike (piece ∷ pieces) (other ∷ others) alike (suc k, one, within, at, is) =
    let more = core_alike pieces others alike.1 (k, one, omega (arith, within), at, is) in
    (suc more.0, more.1, (let there = more.2 in omega (arith, there)), more.3, more.4)

abbrev IsFirst : PieceValue → Type 0
IsFirst piece = piece.from ≡ 0

abbrev IsLater : PieceValue → Type 0
IsLater piece = 0 < piece.from

abbrev FitsCore : PieceValue → Type 0
FitsCore piece = (piece.from ≡ 0) × (IsCore piece → piece.to + 1 ≡ length piece.segment.entries)

fits_first : (pieces : List PieceValue) → AllByRecursion FitsCore pieces → AllByRecursion IsFirst pieces
fits_first [] all = tt
fits_first (piece ∷ pieces) all = (all.0.0, fits_first pieces all.1)

first_alike : (pieces others : List PieceValue) → AreAllAlike pieces others → AllByRecursion IsFirst pieces
    → AllByRecursion IsFirst others
first_alike [] [] alike all = tt
first_alike [] (other ∷ others) alike all = absurd alike
first_alike (piece ∷ pieces) [] alike all = absurd alike
first_alike (piece ∷ pieces) (other ∷ others) alike all =
    (alike.0.first.0 all.0, first_alike pieces others alike.1 all.1)

first_fits : (pieces : List PieceValue) → AllByRecursion IsUsable pieces → AllByRecursion IsFirst pieces
    → AllByRecursion FitsCore pieces
first_fits [] usable all = tt
first_fits (piece ∷ pieces) usable all =
    ((all.0, λ core. (usable.0.whole core).1), first_fits pieces usable.1 all.1)

later_one : (one other : PieceValue) → (other.from ≡ 0 → one.from ≡ 0) → 0 < one.from → 0 < other.from
later_one one other back later = elim (cases_lt 0 other.from) [
  | inl less ↦ less
  | inr upto ↦ absurd (let none = back (omega (arith, upto)) in omega (arith, none, later))
]

later_alike : (pieces others : List PieceValue) → AreAllAlike pieces others → AllByRecursion IsLater pieces
    → AllByRecursion IsLater others
later_alike [] [] alike all = tt
later_alike [] (other ∷ others) alike all = absurd alike
later_alike (piece ∷ pieces) [] alike all = absurd alike
later_alike (piece ∷ pieces) (other ∷ others) alike all =
    (later_one piece other alike.0.first.1 all.0, later_alike pieces others alike.1 all.1)

cuts_alike : (pieces others : List PieceValue) → AllByRecursion IsUsable others → AreAllAlike pieces others
    → AreCutWell pieces → AreCutWell others
cuts_alike pieces others usable alike cut = record {
  with_core = λ core.
      All-from_recursion FitsCore others (first_fits others usable (first_alike pieces others alike
      (fits_first pieces (recursion_from_All FitsCore pieces (cut.with_core (core_alike others pieces (all_alike_turned pieces others alike) core))))));
  without = λ none. elim (cut.without (λ core. none (core_alike pieces others alike core))) [
    | inl all ↦ inl (All-from_recursion IsFirst others (first_alike pieces others alike (recursion_from_All IsFirst pieces all)))
    | inr all ↦ inr (All-from_recursion IsLater others (later_alike pieces others alike (recursion_from_All IsLater pieces all)))
  ];
}

-- ---- ends

pub all_ranges : (pieces : List PieceValue) → AllByRecursion IsUsable pieces → AllByRecursion HasRange pieces
all_ranges [] usable = tt
all_ranges (piece ∷ pieces) usable = (usable.0.range, all_ranges pieces usable.1)

meet_alike : (pieces others : List PieceValue) → AllByRecursion HasRange pieces → AllByRecursion HasRange others
    → AreAllAlike pieces others → DoMeet pieces → DoMeet others
meet_alike [] [] ranges also alike meet = tt
meet_alike [] (other ∷ others) ranges also alike meet = absurd alike
meet_alike (piece ∷ pieces) [] ranges also alike meet = absurd alike
meet_alike (piece ∷ []) (other ∷ []) ranges also alike meet = tt
meet_alike (piece ∷ []) (other ∷ next ∷ others) ranges also alike meet = absurd alike.1
meet_alike (piece ∷ next ∷ pieces) (other ∷ []) ranges also alike meet = absurd alike.1
meet_alike (piece ∷ next ∷ pieces) (other ∷ second ∷ others) ranges also alike meet = (
  sym (ends_alike piece other ranges.0 also.0 alike.0) ∙ meet.0 ∙ begins_alike next second ranges.1.0 also.1.0 alike.1.0,
  meet_alike (next ∷ pieces) (second ∷ others) ranges.1 also.1 alike.1 meet.1,
)

source_alike : (src : ℕ) (pieces others : List PieceValue) → AllByRecursion HasRange pieces → AllByRecursion HasRange others
    → AreAllAlike pieces others → DoBeginIn src pieces → DoBeginIn src others
source_alike src [] [] ranges also alike begin = begin
source_alike src [] (other ∷ others) ranges also alike begin = absurd alike
source_alike src (piece ∷ pieces) [] ranges also alike begin = absurd alike
source_alike src (piece ∷ pieces) (other ∷ others) ranges also alike begin =
    sym (begins_alike piece other ranges.0 also.0 alike.0) ∙ begin

destination_alike : (dst : ℕ) (pieces others : List PieceValue) → AllByRecursion HasRange pieces → AllByRecursion HasRange others
    → AreAllAlike pieces others → DoEndIn dst pieces → DoEndIn dst others
destination_alike dst [] [] ranges also alike end = end
destination_alike dst [] (other ∷ others) ranges also alike end = absurd alike
destination_alike dst (piece ∷ pieces) [] ranges also alike end = absurd alike
destination_alike dst (piece ∷ []) (other ∷ []) ranges also alike end =
    sym (ends_alike piece other ranges.0 also.0 alike.0) ∙ end
destination_alike dst (piece ∷ []) (other ∷ next ∷ others) ranges also alike end = absurd alike.1
destination_alike dst (piece ∷ next ∷ pieces) (other ∷ []) ranges also alike end = absurd alike.1
destination_alike dst (piece ∷ next ∷ pieces) (other ∷ second ∷ others) ranges also alike end =
    destination_alike dst (next ∷ pieces) (second ∷ others) ranges.1 also.1 alike.1 end

-- ---- paths

pub path_alike : (pieces others : List PieceValue) (src dst now : ℕ) → AllByRecursion IsUsable others
    → AreAllAlike pieces others → AreLive now others → MakesPath pieces src dst now → MakesPath others src dst now
path_alike pieces others src dst now usable alike live path =
    let ranges = recursion_from_All HasRange pieces path.ranges in
    let also = all_ranges others usable in
    record {
      some = some_alike pieces others alike path.some;
      ranges = All-from_recursion HasRange others also;
      kinds = subst DoAdjoin (kinds_alike pieces others alike) path.kinds;
      cuts = cuts_alike pieces others usable alike path.cuts;
      meet = meet_alike pieces others ranges also alike path.meet;
      source = source_alike src pieces others ranges also alike path.source;
      destination = destination_alike dst pieces others ranges also alike path.destination;
      few = (let same = total_alike pieces others alike in let few = path.few in omega (arith, same, few));
      once = subst NamesOnce (walk_alike pieces others alike) path.once;
      live = live;
    }

pub accepted_alike : (pieces others : List PieceValue) (src dst now : ℕ) (rules : Rules) → AllByRecursion IsUsable others
    → AreAllAlike pieces others → AreLive now others
    → IsAccepted (request_of pieces (header_of pieces) src dst now rules)
    → IsAccepted (request_of others (header_of others) src dst now rules)
accepted_alike pieces others src dst now rules usable alike live accepted =
    accepts (request_of others (header_of others) src dst now rules)
    (path_alike pieces others src dst now usable alike live (path_kept accepted)) refl
    (subst (AllowsHops rules.acl) (walk_alike pieces others alike) (hops_kept accepted))
    (subst (HasWord rules.sequence) (walk_alike pieces others alike) (word_kept accepted))
