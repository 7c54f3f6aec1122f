-- The best choice from groups is no worse than any other.
use Rattle.std.proofs.Common.{ℕ, ◌≤◌, List, [], ◌∷◌, All, Contains, subst, ◌∙◌, inl, inr, arith}
use Rattle.std.specs.List.{AllByRecursion}
use Rattle.std.proofs.lemmas.List.Elements.{All-cons, All-nil, All-head, All-tail}
use Rattle.hop_mac.specs.Lifetime.{expiry_of}
use Rattle.path_verifier.specs.Piece.{PieceValue, entries_of}
use Rattle.path_verifier.specs.Header.{header_of}
use Rattle.path_verifier.specs.Accepted.{LastTo}
use Rattle.combinator.specs.Candidate.{path_with}
use Rattle.combinator.specs.inner.Search.{HasFields, IsNoWorse}
use Rattle.combinator.specs.inner.Alike.{IsUsable, AreAlike, AreAllAlike}
use Rattle.combinator.specs.inner.Group.{heads_of, GroupValue, IsGroup, AreOf, IsOneOver, AreLeastUntil, IsBestOf}
use Rattle.combinator.proofs.Alike.{alike_turned, len_alike}
use Rattle.combinator.proofs.Fields.{AreNoGreater, no_greater_bytes}

pub of_group : (P : PieceValue → Type 0) (pieces : List PieceValue) (piece : PieceValue) → All P pieces → Contains pieces piece → P piece
of_group P pieces piece all there = subst P there.2 (all there.0 piece there.1)

alike_on : (one other third : PieceValue) → AreAlike one other → AreAlike other third → AreAlike one third
alike_on one other third first second = record {
  kind = first.kind ∙ second.kind;
  walk = first.walk ∙ second.walk;
  first = (λ is. second.first.0 (first.first.0 is), λ is. first.first.1 (second.first.1 is));
}

abbrev Lasts : ℕ → PieceValue → Type 0
Lasts half piece = All (λ entry. half ≤ expiry_of piece.segment.timestamp entry.exp_time) (entries_of piece)

last_head : (half : ℕ) (piece : PieceValue) (pieces : List PieceValue) → LastTo half (piece ∷ pieces) → LastTo half (piece ∷ [])
last_head half piece pieces lasts = All-cons (Lasts half) piece [] (All-head (Lasts half) piece pieces lasts) (All-nil (Lasts half))

last_tail : (half : ℕ) (piece : PieceValue) (pieces : List PieceValue) → LastTo half (piece ∷ pieces) → LastTo half pieces
last_tail half piece pieces lasts = All-tail (Lasts half) piece pieces lasts

last_cons : (half : ℕ) (piece : PieceValue) (pieces : List PieceValue) → LastTo half (piece ∷ []) → LastTo half pieces → LastTo half (piece ∷ pieces)
last_cons half piece pieces one more = All-cons (Lasts half) piece pieces (All-head (Lasts half) piece [] one) more

pub last_less : (half later : ℕ) (pieces : List PieceValue) → half ≤ later → LastTo later pieces → LastTo half pieces
last_less half later pieces upto lasts j p there k d within = (let here = lasts j p there k d within in omega (arith, here, upto))

-- a choice does not last beyond the group that is over first
upto_over : (half later : ℕ) (groups : List GroupValue) (pieces : List PieceValue) → IsOneOver half groups → AreOf groups pieces
    → LastTo later pieces → later ≤ half
upto_over half later [] pieces over of lasts = absurd over
upto_over half later (group ∷ groups) [] over of lasts = absurd of
upto_over half later (group ∷ groups) (piece ∷ pieces) (inl over) of lasts =
    over piece of.0 later (last_head later piece pieces lasts)
upto_over half later (group ∷ groups) (piece ∷ pieces) (inr over) of lasts =
    upto_over half later groups pieces over of.1 (last_tail later piece pieces lasts)

lasts_until : (half : ℕ) (groups : List GroupValue) (pieces : List PieceValue) → AreLeastUntil half groups pieces
    → LastTo half pieces
lasts_until half [] [] least = All-nil (Lasts half)
lasts_until half [] (piece ∷ pieces) least = absurd least
lasts_until half (group ∷ groups) [] least = absurd least
lasts_until half (group ∷ groups) (piece ∷ pieces) least =
    last_cons half piece pieces least.0.lasts (lasts_until half groups pieces least.1)

pub chosen_of : (half : ℕ) (groups : List GroupValue) (pieces : List PieceValue) → AreLeastUntil half groups pieces → AreOf groups pieces
chosen_of half [] [] least = tt
chosen_of half [] (piece ∷ pieces) least = absurd least
chosen_of half (group ∷ groups) [] least = absurd least
chosen_of half (group ∷ groups) (piece ∷ pieces) least = (least.0.there, chosen_of half groups pieces least.1)

pub fields_there : (groups : List GroupValue) (pieces : List PieceValue) → AllByRecursion IsGroup groups → AreOf groups pieces
    → AllByRecursion HasFields pieces
fields_there [] [] are of = tt
fields_there [] (piece ∷ pieces) are of = absurd of
fields_there (group ∷ groups) [] are of = absurd of
fields_there (group ∷ groups) (piece ∷ pieces) are of =
    (of_group HasFields group.pieces piece are.0.fields of.0, fields_there groups pieces are.1 of.1)

pub usable_there : (groups : List GroupValue) (pieces : List PieceValue) → AllByRecursion IsGroup groups → AreOf groups pieces
    → AllByRecursion IsUsable pieces
usable_there [] [] are of = tt
usable_there [] (piece ∷ pieces) are of = absurd of
usable_there (group ∷ groups) [] are of = absurd of
usable_there (group ∷ groups) (piece ∷ pieces) are of =
    (of_group IsUsable group.pieces piece are.0.usable of.0, usable_there groups pieces are.1 of.1)

pub one_group : (group : GroupValue) (one other : PieceValue) → IsGroup group → Contains group.pieces one
    → Contains group.pieces other → AreAlike one other
one_group group one other is first second =
    alike_on one group.head other
    (alike_turned group.head one (of_group (AreAlike group.head) group.pieces one is.alike first))
    (of_group (AreAlike group.head) group.pieces other is.alike second)

pub choices_alike : (groups : List GroupValue) (pieces others : List PieceValue) → AllByRecursion IsGroup groups
    → AreOf groups pieces → AreOf groups others → AreAllAlike pieces others
choices_alike [] [] [] are of also = tt
choices_alike [] (piece ∷ pieces) others are of also = absurd of
choices_alike [] [] (other ∷ others) are of also = absurd also
choices_alike (group ∷ groups) [] others are of also = absurd of
choices_alike (group ∷ groups) (piece ∷ pieces) [] are of also = absurd also
choices_alike (group ∷ groups) (piece ∷ pieces) (other ∷ others) are of also =
    (one_group group piece other are.0 of.0 also.0, choices_alike groups pieces others are.1 of.1 also.1)

no_greater : (half : ℕ) (groups : List GroupValue) (pieces others : List PieceValue) → AllByRecursion IsGroup groups
    → AreLeastUntil half groups pieces → AreOf groups others → LastTo half others → AreNoGreater pieces others
no_greater half [] [] [] are least of lasts = tt
no_greater half [] (piece ∷ pieces) others are least of lasts = absurd least
no_greater half [] [] (other ∷ others) are least of lasts = absurd of
no_greater half (group ∷ groups) [] others are least of lasts = absurd least
no_greater half (group ∷ groups) (piece ∷ pieces) [] are least of lasts = absurd of
no_greater half (group ∷ groups) (piece ∷ pieces) (other ∷ others) are least of lasts = (
  len_alike piece other (one_group group piece other are.0 least.0.there of.0),
  least.0.least other of.0 (last_head half other others lasts),
  no_greater half groups pieces others are.1 least.1 of.1 (last_tail half other others lasts),
)

-- law 2
pub best_of : (groups : List GroupValue) (pieces others : List PieceValue) → AllByRecursion IsGroup groups
    → IsBestOf groups pieces → AreOf groups others
    → IsNoWorse (path_with pieces (header_of pieces)) (path_with others (header_of others))
best_of groups pieces others are best of = record {
  latest = λ later lasts. last_less later best.half pieces (upto_over best.half later groups others best.over of lasts)
      (lasts_until best.half groups pieces best.least);
  least = λ as_late.
      no_greater_bytes pieces others
      (fields_there groups pieces are (chosen_of best.half groups pieces best.least)) (fields_there groups others are of)
      (no_greater best.half groups pieces others are best.least of
      (as_late best.half (lasts_until best.half groups pieces best.least)));
}

-- the heads are a choice
pub heads_there : (groups : List GroupValue) → AllByRecursion IsGroup groups → AreOf groups (heads_of groups)
heads_there [] are = tt
heads_there (group ∷ groups) are = (are.0.there, heads_there groups are.1)

-- each choice is like the heads
pub heads_alike : (groups : List GroupValue) (pieces : List PieceValue) → AllByRecursion IsGroup groups → AreOf groups pieces
    → AreAllAlike (heads_of groups) pieces
heads_alike [] [] are of = tt
heads_alike [] (piece ∷ pieces) are of = absurd of
heads_alike (group ∷ groups) [] are of = absurd of
heads_alike (group ∷ groups) (piece ∷ pieces) are of =
    (of_group (AreAlike group.head) group.pieces piece are.0.alike of.0, heads_alike groups pieces are.1 of.1)
