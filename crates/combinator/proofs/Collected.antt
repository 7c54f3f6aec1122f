-- What loops collect.
use Rattle.std.proofs.Common.{◌≡◌, ℕ, zero, suc, ◌+◌, ◌<◌, ◌≤◌, Bool, List, [], ◌∷◌, ◌++◌, length, get_or, take, All, Contains, refl, sym, ap, subst, ◌∙◌, inl, inr, arith, add-one}
use Rattle.std.specs.Prelude.{◌⊎◌}
use Rattle.std.proofs.lemmas.List.Elements.{All-push, Contains-push, Contains-push_cases, Contains-append_left}
use Rattle.path_segment.specs.declared.kind.SegKind.TheVariants as kinds
use Rattle.path_segment.specs.Chain.{Chain}
use Rattle.path_verifier.specs.Piece.{PieceValue, HasRange}
use Rattle.combinator.specs.inner.UsablePieces.{piece_of, outer_of, IsCut, IsWhole, AreIn}

-- ---- pieces of segments

pub item_in : (list segments : List Chain) (i : ℕ) (segment : Chain) → i < length segments
    → segment ≡ get_or segments i segment → All (Contains list) segments → Contains list segment
item_in list segments i segment within is all = subst (Contains list) (sym is) (all i segment within)

front_suc : {X : Type 0} (xs : List X) (k : ℕ) (x : X) → k < length xs
    → take (suc k) xs ≡ take k xs ++ get_or xs k x ∷ []
front_suc [] k x inside = absurd (omega arith)
front_suc (y ∷ []) zero x inside = refl
front_suc (y ∷ z ∷ ys) zero x inside = refl
front_suc (y ∷ ys) (suc k) x inside = ap (λ zs. y ∷ zs) (front_suc ys k x (omega arith))

front : {X : Type 0} (xs : List X) (k : ℕ) (x : X) → k < length xs → take (k + 1) xs ≡ take k xs ++ get_or xs k x ∷ []
front xs k x inside = rw add-one (front_suc xs k x inside)

pub take_past : {X : Type 0} (xs : List X) (n : ℕ) → length xs ≤ n → take n xs ≡ xs
take_past [] zero past = refl
take_past [] (suc n) past = refl
take_past (x ∷ xs) zero past = absurd (omega arith)
take_past (x ∷ xs) (suc n) past = ap (λ ys. x ∷ ys) (take_past xs n (omega arith))

pub taken_more : {X : Type 0} (xs : List X) (i : ℕ) (x other : X) → i < length xs → x ≡ get_or xs i x
    → Contains (take (i + 1) xs) other → Contains (take i xs) other ⊎ (x ≡ other)
taken_more {X} xs i x other within is there =
    Contains-push_cases (take i xs) x other
    (subst (λ (ys : List X). Contains ys other) (front xs i x within ∙ ap (λ (y : X). take i xs ++ y ∷ []) (sym is)) there)

-- what holds of the elements before a place, in a form that lasts, and of the one there, holds up
-- to it
pub by_items : {X : Type 0} (P Q : X → Type 0) (xs : List X) (i : ℕ) (x : X) → i < length xs
    → x ≡ get_or xs i x → ((y : X) → P y → Q y)
    → ((y : X) → Contains (take i xs) y → P y) → Q x → (y : X) → Contains (take (i + 1) xs) y → Q y
by_items P Q xs i x within is lasts so_far here y there =
    elim (taken_more xs i x y within is there) [ inl before ↦ lasts y (so_far y before) | inr same ↦ subst Q same here ]

pub at_end : {X : Type 0} (P : X → Type 0) (xs : List X) (i : ℕ) → length xs ≤ i
    → ((y : X) → Contains (take i xs) y → P y) → (y : X) → Contains xs y → P y
at_end {X} P xs i past so_far y there =
    so_far y (subst (λ (ys : List X). Contains ys y) (sym (take_past xs i past)) there)

pub all_more : {X : Type 0} (P : X → Type 0) (xs : List X) (i : ℕ) (x : X) → i < length xs → x ≡ get_or xs i x
    → All P (take i xs) → P x → All P (take (i + 1) xs)
all_more {X} P xs i x within is so_far here =
    subst (All P) (sym (front xs i x within ∙ ap (λ (y : X). take i xs ++ y ∷ []) (sym is)))
    (All-push P (take i xs) x so_far here)

pub all_taken : {X : Type 0} (P : X → Type 0) (xs : List X) (i : ℕ) → length xs ≤ i → All P (take i xs) → All P xs
all_taken P xs i past all = subst (All P) (take_past xs i past) all

-- what was collected, and one more
pub pushed_more : (old new : List PieceValue) (piece : PieceValue) → new ≡ old ++ piece ∷ [] → AreIn old new
pushed_more old new piece is one there =
    subst (λ (pieces : List PieceValue). Contains pieces one) (sym is) (Contains-append_left old (piece ∷ []) one there)

pub pushed_here : (old new : List PieceValue) (piece : PieceValue) → new ≡ old ++ piece ∷ [] → Contains new piece
pushed_here old new piece is =
    subst (λ (pieces : List PieceValue). Contains pieces piece) (sym is) (Contains-push old piece)

-- a piece of this segment is among what was collected of it
cut_here : (segment : Chain) (along : Bool) (outer : ℕ) (usable_pieces : List PieceValue)
    → (segment.kind ≡ kinds.Intra → (from to : ℕ) → from < to → to < length segment.entries → outer_of (piece_of segment from to along) ≡ outer → Contains usable_pieces (piece_of segment from to along))
    → (piece : PieceValue) → segment ≡ piece.segment → HasRange piece → piece.segment.kind ≡ kinds.Intra
    → piece.along ≡ along → outer_of piece ≡ outer → Contains usable_pieces piece
cut_here segment along outer usable_pieces all piece same range kind direction end =
    let Q : Chain → Bool → Type 0 = λ s a. (s.kind ≡ kinds.Intra → (from to : ℕ) → from < to → to < length s.entries → outer_of (piece_of s from to a) ≡ outer → Contains usable_pieces (piece_of s from to a)) in
    let own : Q piece.segment piece.along =
    subst (λ (a : Bool). Q piece.segment a) (sym direction) (subst (λ (s : Chain). Q s along) same all) in
    own kind piece.from piece.to range.order range.within end

pub cut_more : (segments : List Chain) (i : ℕ) (segment : Chain) (along : Bool) (outer : ℕ) (usable_pieces more : List PieceValue)
    → i < length segments → segment ≡ get_or segments i segment
    → AreIn usable_pieces more
    → ((piece : PieceValue) → IsCut (take i segments) along outer piece → Contains usable_pieces piece)
    → (segment.kind ≡ kinds.Intra → (from to : ℕ) → from < to → to < length segment.entries → outer_of (piece_of segment from to along) ≡ outer → Contains more (piece_of segment from to along))
    → (piece : PieceValue) → IsCut (take (i + 1) segments) along outer piece → Contains more piece
cut_more segments i segment along outer usable_pieces more within is grown so_far all piece cut =
    elim (taken_more segments i segment piece.segment within is cut.there) [
      | inl before ↦ grown piece
          (so_far piece (record { there = before; range = cut.range; kind = cut.kind; direction = cut.direction; end = cut.end }))
      | inr same ↦ cut_here segment along outer more all piece same cut.range cut.kind cut.direction cut.end
    ]

pub cut_all : (segments : List Chain) (i : ℕ) (along : Bool) (outer : ℕ) (usable_pieces : List PieceValue)
    → length segments ≤ i
    → ((piece : PieceValue) → IsCut (take i segments) along outer piece → Contains usable_pieces piece)
    → (piece : PieceValue) → IsCut segments along outer piece → Contains usable_pieces piece
cut_all segments i along outer usable_pieces past so_far piece cut =
    so_far piece
    (record { there = subst (λ (xs : List Chain). Contains xs piece.segment) (sym (take_past segments i past)) cut.there; range = cut.range; kind = cut.kind; direction = cut.direction; end = cut.end })

whole_here : (segment : Chain) (usable_pieces : List PieceValue)
    → (segment.kind ≡ kinds.Core → (to : ℕ) (along : Bool) → to + 1 ≡ length segment.entries → Contains usable_pieces (piece_of segment 0 to along))
    → (piece : PieceValue) → segment ≡ piece.segment → piece.segment.kind ≡ kinds.Core → piece.from ≡ 0
    → piece.to + 1 ≡ length piece.segment.entries → Contains usable_pieces piece
whole_here segment usable_pieces all piece same kind first last =
    let Q : Chain → Type 0 = λ s. (s.kind ≡ kinds.Core → (to : ℕ) (along : Bool) → to + 1 ≡ length s.entries → Contains usable_pieces (piece_of s 0 to along)) in
    let own : Q piece.segment = subst Q same all in
    subst (λ (from : ℕ). Contains usable_pieces (piece_of piece.segment from piece.to piece.along))
    (sym first) (own kind piece.to piece.along last)

pub whole_more : (segments : List Chain) (i : ℕ) (segment : Chain) (usable_pieces more : List PieceValue)
    → i < length segments → segment ≡ get_or segments i segment
    → AreIn usable_pieces more → ((piece : PieceValue) → IsWhole (take i segments) piece → Contains usable_pieces piece)
    → (segment.kind ≡ kinds.Core → (to : ℕ) (along : Bool) → to + 1 ≡ length segment.entries → Contains more (piece_of segment 0 to along))
    → (piece : PieceValue) → IsWhole (take (i + 1) segments) piece → Contains more piece
whole_more segments i segment usable_pieces more within is grown so_far all piece whole =
    elim (taken_more segments i segment piece.segment within is whole.there) [
      | inl before ↦ grown piece
          (so_far piece (record { there = before; kind = whole.kind; first = whole.first; last = whole.last }))
      | inr same ↦ whole_here segment more all piece same whole.kind whole.first whole.last
    ]

pub whole_all : (segments : List Chain) (i : ℕ) (usable_pieces : List PieceValue) → length segments ≤ i
    → ((piece : PieceValue) → IsWhole (take i segments) piece → Contains usable_pieces piece)
    → (piece : PieceValue) → IsWhole segments piece → Contains usable_pieces piece
whole_all segments i usable_pieces past so_far piece whole =
    so_far piece
    (record { there = subst (λ (xs : List Chain). Contains xs piece.segment) (sym (take_past segments i past)) whole.there; kind = whole.kind; first = whole.first; last = whole.last })
