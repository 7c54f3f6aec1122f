-- The turned pieces of a path are a path back, while all hops are live.
use Rattle.std.proofs.Common.{◌≡◌, ℕ, ◌+◌, ◌-◌, ◌<◌, ◌≤◌, ◌⊎◌, Bool, true, false, not, List, [], ◌∷◌, ◌++◌, length, get_or, map, All, Any, refl, sym, ap, ◌∙◌, subst, arith, inl, inr}
use Rattle.std.specs.List.{AllByRecursion}
use Rattle.std.proofs.lemmas.List.{length-reverse, length-map, get_or-reverse, get_or-map}
use Rattle.std.proofs.lemmas.List.Elements.{All-same, All-nil, All-cons, All-append, All-head, All-tail, recursion_from_All}
use Rattle.hop_mac.specs.Lifetime.{IsLive}
use Rattle.path_segment.specs.declared.kind.SegKind.{SegKind}
use Rattle.path_segment.specs.declared.kind.SegKind.TheVariants as segments
use Rattle.path_verifier.specs.declared.kind.PieceKind.{PieceKind}
use Rattle.path_verifier.specs.declared.kind.PieceKind.TheVariants.{Up, Core, Down}
use Rattle.path_verifier.specs.Piece.{PieceValue, HasRange, kind_in, kind_of, entries_of, begins_in, ends_in}
use Rattle.path_verifier.specs.Walk.{walk_of}
use Rattle.path_verifier.specs.Accepted.{MayAdjoin, DoAdjoin, IsCore, AreCutWell, DoMeet, DoBeginIn, DoEndIn, NamesOnce, AreLive, MakesPath}
use Rattle.path_verifier.specs.Turned.{turned_piece, turned_pieces, turned_walk}
use Rattle.path_verifier.proofs.Lengths.{three_at_most}
use Rattle.path_verifier.proofs.Turned.{reverse_cons, begins_turned, ends_turned}
use Rattle.path_verifier.proofs.TurnedWalk.{walk_turned, once_turned}
use Rattle.path_verifier.proofs.TurnedCounts.{IsLong, long_of, count_turned, length_turned_pieces}

-- ---- what holds of all, or of one

pub all_turned : (P Q : PieceValue → Type 0)
    → ((piece : PieceValue) → P piece → Q (turned_piece piece)) → (pieces : List PieceValue)
    → All P pieces → All Q (turned_pieces pieces)
all_turned P Q each [] all = All-nil Q
all_turned P Q each (piece ∷ pieces) all =
    All-same Q (turned_pieces (piece ∷ pieces)) (turned_pieces pieces ++ turned_piece piece ∷ [])
    (reverse_cons (turned_piece piece) (map turned_piece pieces))
    (All-append Q (turned_pieces pieces) (turned_piece piece ∷ [])
    (all_turned P Q each pieces (All-tail P piece pieces all))
    (All-cons Q (turned_piece piece) [] (each piece (All-head P piece pieces all)) (All-nil Q)))

pub any_turned : (P Q : PieceValue → Type 0)
    → ((piece : PieceValue) → P piece → Q (turned_piece piece)) → (pieces : List PieceValue)
    → Any P pieces → Any Q (turned_pieces pieces)
any_turned P Q each pieces some =
    let k = some.0 in
    let piece = some.1 in
    let within : k < length pieces = some.2 in
    let ts = map turned_piece pieces in
    let long = length-map pieces turned_piece in
    let count = length-reverse ts in
    let other : length ts - 1 - k < length ts = omega arith in
    let back : length ts - 1 - (length ts - 1 - k) ≡ k = omega arith in
    let inside : length ts - 1 - k < length (turned_pieces pieces) = omega arith in
    let read : get_or (turned_pieces pieces) (length ts - 1 - k)
    (turned_piece piece) ≡ turned_piece piece =
    get_or-reverse ts (length ts - 1 - k) (turned_piece piece) other
    ∙ ap (λ i. get_or ts i (turned_piece piece)) back
    ∙ get_or-map turned_piece pieces k piece (turned_piece piece) within
    ∙ ap turned_piece some.3 in
    (length ts - 1 - k, turned_piece piece, inside, read, each piece some.4)

not_not : (b : Bool) → not (not b) ≡ b
not_not true = refl
not_not false = refl

pub twice : (piece : PieceValue) → turned_piece (turned_piece piece) ≡ piece
twice piece =
    ap (λ along. record {
      segment = piece.segment;
      from = piece.from;
      to = piece.to;
      along =
          along;
    }) (not_not piece.along)

-- a piece among the pieces stands among those of the way back
any_back : (P Q : PieceValue → Type 0) → ((piece : PieceValue) → P (turned_piece piece) → Q piece)
    → (pieces : List PieceValue) → Any P (turned_pieces pieces) → Any Q pieces
any_back P Q each pieces some =
    let k = some.0 in
    let piece = some.1 in
    let ts = map turned_piece pieces in
    let long = length-map pieces turned_piece in
    let count = length-reverse ts in
    let within : k < length (turned_pieces pieces) = some.2 in
    let inside : k < length ts = omega arith in
    let other : length ts - 1 - k < length pieces = omega arith in
    let read : turned_piece (get_or pieces (length ts - 1 - k) (turned_piece piece)) ≡ piece =
    sym (get_or-map turned_piece pieces (length ts - 1 - k) (turned_piece piece) piece other)
    ∙ sym (get_or-reverse ts k piece inside) ∙ some.3 in
    let at : get_or pieces (length ts - 1 - k) (turned_piece piece) ≡ turned_piece piece =
    sym (twice (get_or pieces (length ts - 1 - k) (turned_piece piece)))
    ∙ ap turned_piece read in (
      length ts - 1 - k,
      turned_piece piece,
      other,
      at,
      each (turned_piece piece) (subst P (sym (twice piece)) some.4),
    )

-- ---- kinds

abbrev pub turned_kind : PieceKind → PieceKind
turned_kind Up = Down
turned_kind Core = Core
turned_kind Down = Up

kind_in_turned : (kind : SegKind) (along : Bool)
    → kind_in kind (not along) ≡ turned_kind (kind_in kind along)
kind_in_turned segments.Core along = refl
kind_in_turned segments.Intra true = refl
kind_in_turned segments.Intra false = refl

pub kind_turned : (piece : PieceValue) → kind_of (turned_piece piece) ≡ turned_kind (kind_of piece)
kind_turned piece = kind_in_turned piece.segment.kind piece.along

core_there : (kind : PieceKind) → turned_kind kind ≡ Core → kind ≡ Core
core_there Up e = absurd cc
core_there Core e = refl
core_there Down e = absurd cc

core_turned : (piece : PieceValue) → IsCore piece → IsCore (turned_piece piece)
core_turned piece is = kind_turned piece ∙ ap turned_kind is

core_back : (piece : PieceValue) → IsCore (turned_piece piece) → IsCore piece
core_back piece is = core_there (kind_of piece) (sym (kind_turned piece) ∙ is)

adjoin_turned : (kind next : PieceKind) → MayAdjoin kind next
    → MayAdjoin (turned_kind next) (turned_kind kind)
adjoin_turned Up Up may = may
adjoin_turned Up Core may = tt
adjoin_turned Up Down may = tt
adjoin_turned Core Up may = may
adjoin_turned Core Core may = may
adjoin_turned Core Down may = tt
adjoin_turned Down Up may = may
adjoin_turned Down Core may = may
adjoin_turned Down Down may = may

pieces_turned : (piece next : PieceValue) → MayAdjoin (kind_of piece) (kind_of next)
    → MayAdjoin (kind_of (turned_piece next)) (kind_of (turned_piece piece))
pieces_turned piece next may =
    subst (λ kind. MayAdjoin kind (kind_of (turned_piece piece))) (sym (kind_turned next))
    (subst (λ kind. MayAdjoin (turned_kind (kind_of next)) kind) (sym (kind_turned piece))
    (adjoin_turned (kind_of piece) (kind_of next) may))

kinds_turned : (pieces : List PieceValue) → length pieces ≤ 3 → DoAdjoin (map kind_of pieces)
    → DoAdjoin (map kind_of (turned_pieces pieces))
kinds_turned [] three adjoin = tt
kinds_turned (a ∷ []) three adjoin = tt
kinds_turned (a ∷ b ∷ []) three adjoin = (pieces_turned a b adjoin.0, tt)
kinds_turned (a ∷ b ∷ c ∷ []) three adjoin =
    (pieces_turned b c adjoin.1.0, (pieces_turned a b adjoin.0, tt))
kinds_turned (a ∷ b ∷ c ∷ d ∷ more) three adjoin = absurd (omega arith)

-- ---- cuts

cuts_turned : (pieces : List PieceValue) → AreCutWell pieces → AreCutWell (turned_pieces pieces)
cuts_turned pieces cuts = record {
  with_core =
      λ some. all_turned
      (λ piece. (piece.from ≡ 0) × (IsCore piece → piece.to + 1 ≡ length piece.segment.entries))
      (λ piece. (piece.from ≡ 0) × (IsCore piece → piece.to + 1 ≡ length piece.segment.entries))
      (λ piece fits. (fits.0, λ core. fits.1 (core_back piece core))) pieces
      (cuts.with_core (any_back IsCore IsCore core_back pieces some));
  without =
      λ none. either
      (cuts.without (λ some. none (any_turned IsCore IsCore core_turned pieces some)));
}
  where
    either : All (λ piece. piece.from ≡ 0) pieces ⊎ All (λ piece. 0 < piece.from) pieces
        → All (λ piece. piece.from ≡ 0) (turned_pieces pieces)
        ⊎ All (λ piece. 0 < piece.from) (turned_pieces pieces)
    either (inl first) =
        inl (all_turned (λ piece. piece.from ≡ 0) (λ piece. piece.from ≡ 0)
        (λ piece is. is) pieces first)
    either (inr later) =
        inr (all_turned (λ piece. 0 < piece.from) (λ piece. 0 < piece.from)
        (λ piece is. is) pieces later)

-- ---- the ASes in which pieces meet, and the ends

meeting : (piece next : PieceValue) → ends_in piece ≡ begins_in next
    → ends_in (turned_piece next) ≡ begins_in (turned_piece piece)
meeting piece next meet = ends_turned next ∙ sym meet ∙ sym (begins_turned piece)

meet_turned : (pieces : List PieceValue) → length pieces ≤ 3 → DoMeet pieces
    → DoMeet (turned_pieces pieces)
meet_turned [] three meet = tt
meet_turned (a ∷ []) three meet = tt
meet_turned (a ∷ b ∷ []) three meet = (meeting a b meet.0, tt)
meet_turned (a ∷ b ∷ c ∷ []) three meet = (meeting b c meet.1.0, (meeting a b meet.0, tt))
meet_turned (a ∷ b ∷ c ∷ d ∷ more) three meet = absurd (omega arith)

source_turned : (dst : ℕ) (pieces : List PieceValue) → length pieces ≤ 3 → DoEndIn dst pieces
    → DoBeginIn dst (turned_pieces pieces)
source_turned dst [] three end = absurd end
source_turned dst (a ∷ []) three end = begins_turned a ∙ end
source_turned dst (a ∷ b ∷ []) three end = begins_turned b ∙ end
source_turned dst (a ∷ b ∷ c ∷ []) three end = begins_turned c ∙ end
source_turned dst (a ∷ b ∷ c ∷ d ∷ more) three end = absurd (omega arith)

destination_turned : (src : ℕ) (pieces : List PieceValue) → length pieces ≤ 3 → DoBeginIn src pieces
    → DoEndIn src (turned_pieces pieces)
destination_turned src [] three begin = absurd begin
destination_turned src (a ∷ []) three begin = ends_turned a ∙ begin
destination_turned src (a ∷ b ∷ []) three begin = ends_turned a ∙ begin
destination_turned src (a ∷ b ∷ c ∷ []) three begin = ends_turned a ∙ begin
destination_turned src (a ∷ b ∷ c ∷ d ∷ more) three begin = absurd (omega arith)

-- ---- the hops

pub live_turned : (m : ℕ) (pieces : List PieceValue) → AreLive m pieces
    → AreLive m (turned_pieces pieces)
live_turned m pieces live =
    all_turned
    (λ piece. All (λ entry. IsLive piece.segment.timestamp entry.exp_time m) (entries_of piece))
    (λ piece. All (λ entry. IsLive piece.segment.timestamp entry.exp_time m) (entries_of piece))
    (λ piece is. is) pieces live

pub all_long : (pieces : List PieceValue) → AllByRecursion HasRange pieces
    → AllByRecursion IsLong pieces
all_long [] ranges = tt
all_long (piece ∷ pieces) ranges = (long_of piece ranges.0, all_long pieces ranges.1)

-- the walk of the way back of a path
pub walk_back : (pieces : List PieceValue) (src dst now : ℕ) → MakesPath pieces src dst now
    → walk_of (turned_pieces pieces) ≡ turned_walk (walk_of pieces)
walk_back pieces src dst now path =
    walk_turned pieces (three_at_most pieces path.kinds)
    (all_long pieces (recursion_from_All HasRange pieces path.ranges)) path.meet

-- the way back of a path is a path, at each second at which its hops are live
pub path_turned : (pieces : List PieceValue) (src dst now m : ℕ) → MakesPath pieces src dst now
    → AreLive m pieces → MakesPath (turned_pieces pieces) dst src m
path_turned pieces src dst now m path live =
    let three = three_at_most pieces path.kinds in
    let count = length_turned_pieces pieces in
    let some = path.some in
    let hops = count_turned pieces in
    let few = path.few in
    let walk = walk_back pieces src dst now path in
    record {
      some = omega arith;
      ranges = all_turned HasRange HasRange
          (λ piece range. record { order = range.order; within = range.within }) pieces path.ranges;
      kinds = kinds_turned pieces three path.kinds;
      cuts = cuts_turned pieces path.cuts;
      meet = meet_turned pieces three path.meet;
      source = source_turned dst pieces three path.destination;
      destination = destination_turned src pieces three path.source;
      few = omega arith;
      once = subst NamesOnce (sym walk) (once_turned (walk_of pieces) path.once);
      live = live_turned m pieces live;
    }
