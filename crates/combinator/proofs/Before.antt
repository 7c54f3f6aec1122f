-- A path that comes before all paths that begin with some pieces.
use Rattle.std.proofs.Common.{◌≡◌, ℕ, suc, ◌+◌, ◌-◌, ◌*◌, ◌<◌, ◌≤◌, List, Some, [], ◌∷◌, ◌++◌, length, map, take, drop, replicate, All, refl, sym, ap, subst, ◌∙◌, inl, inr, arith, append_assoc, length-take}
use Rattle.std.specs.List.{AllByRecursion, flat_map}
use Rattle.std.specs.Ordering.{nat_cmp, ordering_then}
use Rattle.std.specs.Cmp.Lexicographic.{slice_cmp}
use Rattle.std.specs.Int.{w32, to_be_bytes}
use Rattle.std.specs.declared.cmp.Ordering.{Ordering}
use Rattle.std.specs.declared.cmp.Ordering.TheVariants.{Less, Equal, Greater}
use Rattle.std.proofs.lemmas.Bool.{cases_lt}
use Rattle.std.proofs.lemmas.Cmp.{nat_cmp_total, tied_itself}
use Rattle.std.proofs.lemmas.Grind.{flat_map-append}
use Rattle.std.specs.Cmp.{nat_cmp_is}
use Rattle.std.proofs.lemmas.List.{length-map, map-append, take-append-drop, take-map}
use Rattle.std.proofs.lemmas.List.Sums.{sum_by-cons}
use Rattle.path_header.specs.declared.lens.SegLens.{SegLens}
use Rattle.path_header.specs.Value.{HeaderValue, lens_from}
use Rattle.path_header.specs.Spelling.{meta_of, meta_word, info_spelling, hop_spelling, spelling}
use Rattle.path_verifier.specs.Piece.{PieceValue, HasRange}
use Rattle.path_verifier.specs.Header.{fields_of, info_of, header_of, len_of, total_hops}
use Rattle.path_verifier.proofs.TurnedCounts.{long_of}
use Rattle.path_verifier.proofs.Breaches.{header_kept, path_kept}
use Rattle.std.specs.Prelude.{slice_get}
use Rattle.std.proofs.lemmas.Option.{same_Some}
use Rattle.combinator.specs.Candidate.{Question, PathValue, path_with}
use Rattle.combinator.specs.Order.{bytes_cmp, path_cmp, shown_cmp}
use Rattle.combinator.specs.inner.Search.{AreBefore, ComesBefore, infos_of, IsMetBy}
use Rattle.combinator.specs.inner.Placed.{InOrder}
use Rattle.combinator.specs.inner.Group.{GroupValue, IsGroup, AreOf, HaveInfosFrom, heads_of}
use Rattle.combinator.specs.inner.Over.{OfChoices}
use Rattle.combinator.specs.inner.UsablePieces.{info_number}
use Rattle.combinator.proofs.Alike.{lens_alike, total_alike}
use Rattle.combinator.proofs.Fields.{infos_len}
use Rattle.combinator.proofs.Numbers.{infos_as_numbers}
use Rattle.combinator.proofs.Choices.{heads_alike}
use Rattle.combinator.proofs.Ranks.{path_total}
use Rattle.combinator.proofs.Tried.{count_fields, fewer_hops, total_both}

-- ---- the order of lists of numbers

same_number : (n : ℕ) → nat_cmp n n ≡ Equal
same_number n = tied_itself nat_cmp_total n

cmp_same : (front xs ys : List ℕ) → slice_cmp nat_cmp (front ++ xs) (front ++ ys) ≡ slice_cmp nat_cmp xs ys
cmp_same [] xs ys = refl
cmp_same (n ∷ front) xs ys = rw (same_number n) (cmp_same front xs ys)

head_less : (c rest other : Ordering) → ordering_then c rest ≡ Less → (rest ≡ Less → other ≡ Less)
    → ordering_then c other ≡ Less
head_less Less rest other is on = refl
head_less Equal rest other is on = on is
head_less Greater rest other is on = is

pub cmp_front : (xs ys later more : List ℕ) → length xs ≡ length ys → slice_cmp nat_cmp xs ys ≡ Less
    → slice_cmp nat_cmp (xs ++ later) (ys ++ more) ≡ Less
cmp_front [] [] later more same is = absurd cc
cmp_front [] (y ∷ ys) later more same is = absurd (omega (arith, same))
cmp_front (x ∷ xs) [] later more same is = absurd (omega (arith, same))
cmp_front (x ∷ xs) (y ∷ ys) later more same is =
    head_less (nat_cmp x y) (slice_cmp nat_cmp xs ys) (slice_cmp nat_cmp (xs ++ later) (ys ++ more)) is
    (cmp_front xs ys later more (omega (arith, same)))

-- ---- pieces with as few hop fields as can be

total_least : (pieces : List PieceValue) → All HasRange pieces → 2 * length pieces ≤ total_hops pieces
total_least [] ranges = omega arith
total_least (piece ∷ pieces) ranges =
    let long = long_of piece (ranges 0 piece (omega arith)) in
    let more = total_least pieces (λ k d within. ranges (suc k) d (omega (arith, within))) in
    let sum = sum_by-cons len_of piece pieces in
    omega (arith, long, more, sum)

twos : (pieces : List PieceValue) → All HasRange pieces → total_hops pieces ≤ 2 * length pieces
    → map len_of pieces ≡ replicate (length pieces) 2
twos [] ranges upto = refl
twos (piece ∷ pieces) ranges upto =
    let long = long_of piece (ranges 0 piece (omega arith)) in
    let least = total_least pieces (λ k d within. ranges (suc k) d (omega (arith, within))) in
    let sum = sum_by-cons len_of piece pieces in
    let two : len_of piece ≡ 2 = omega (arith, long, least, sum, upto) in
    let more = twos pieces (λ k d within. ranges (suc k) d (omega (arith, within))) (omega (arith, long, sum, upto)) in
    ap (λ n. n ∷ map len_of pieces) two ∙ ap (λ ns. 2 ∷ ns) more

later_ranges : (front later : List PieceValue) → All HasRange (front ++ later) → All HasRange later
later_ranges [] later ranges = ranges
later_ranges (piece ∷ front) later ranges =
    later_ranges front later (λ k d within. ranges (suc k) d (omega (arith, within)))

-- ---- headers

-- the bytes behind the meta field
behind_meta : HeaderValue → List ℕ
behind_meta header = flat_map info_spelling header.infos ++ flat_map hop_spelling header.hops

infos_mapped : (pieces : List PieceValue) → flat_map info_spelling (map info_of pieces) ≡ infos_of pieces
infos_mapped [] = refl
infos_mapped (piece ∷ pieces) = ap (λ bytes. info_spelling (info_of piece) ++ bytes) (infos_mapped pieces)

behind_front : (front later : List PieceValue)
    → (rest : List ℕ) × (behind_meta (header_of (front ++ later)) ≡ infos_of front ++ rest)
unfolding behind_meta header_of
behind_front front later =
    let hops = flat_map hop_spelling (flat_map fields_of (front ++ later)) in (
      infos_of later ++ hops,
      ap (λ bytes. bytes ++ hops)
          (infos_mapped (front ++ later) ∙ flat_map-append (λ (p : PieceValue). info_spelling (info_of p)) front later)
          ∙ append_assoc (infos_of front) (infos_of later) hops,
    )

same_meta : (one other : HeaderValue) → one.curr_inf ≡ other.curr_inf → one.curr_hf ≡ other.curr_hf
    → one.lens ≡ other.lens → meta_of one ≡ meta_of other
same_meta one other inf hf lens =
    ap (λ n. record { curr_inf = n; curr_hf = one.curr_hf; lens = one.lens }) inf
    ∙ ap (λ n. record { curr_inf = other.curr_inf; curr_hf = n; lens = one.lens }) hf
    ∙ ap (λ (l : SegLens). record { curr_inf = other.curr_inf; curr_hf = other.curr_hf; lens = l }) lens

-- of two headers with one meta field, the bytes behind it decide
decided_behind : (one other : HeaderValue) → meta_of one ≡ meta_of other
    → slice_cmp nat_cmp (behind_meta one) (behind_meta other) ≡ Less → bytes_cmp one other ≡ Less
unfolding bytes_cmp behind_meta
decided_behind one other meta less =
    ap (λ (m : _). slice_cmp nat_cmp (to_be_bytes w32 (meta_word m) ++ behind_meta one) (spelling other)) meta
    ∙ cmp_same (to_be_bytes w32 (meta_word (meta_of other))) (behind_meta one) (behind_meta other) ∙ less

bytes_decide : (one other : PathValue) → length one.header.hops ≡ length other.header.hops
    → bytes_cmp one.header other.header ≡ Less → path_cmp one other ≡ Less
unfolding shown_cmp
bytes_decide one other count less = rw (count, same_number (length other.header.hops), less) refl

-- ---- before all that begin so

many : (front later : List PieceValue) → All HasRange (front ++ later)
    → total_hops front + 2 * length later ≤ total_hops (front ++ later)
many front later ranges =
    let both = total_both front later in
    let least = total_least later (later_ranges front later ranges) in
    omega (arith, both, least)

module _ (one : PathValue) (front : List PieceValue) (further : ℕ) where
  pub before_longer : length one.header.hops < total_hops front + 2 * further → ComesBefore one front further
  unfolding ComesBefore
  before_longer less = λ later ranges upto.
      let count = count_fields (front ++ later) in
      let hops = many front later ranges in
      fewer_hops one (path_with (front ++ later) (header_of (front ++ later))) (omega (arith, less, count, hops, upto))

  module _ (own : one.header ≡ header_of one.pieces)
      (same : length one.header.hops ≡ total_hops front + 2 * further)
      (lens : one.header.lens ≡ lens_from (map len_of front ++ replicate further 2))
      (within : length front ≤ length one.pieces)
      (less : slice_cmp nat_cmp (take (length front) (map info_number one.pieces)) (map info_number front) ≡ Less) where
    module _ (later : List PieceValue) (ranges : All HasRange (front ++ later))
        (upto : further ≤ length later)
        (no_more : total_hops (front ++ later) ≤ total_hops front + 2 * further) where
      so_many : length later ≡ further
      so_many = (let hops = many front later ranges in omega (arith, hops, upto, no_more))

      same_lens : one.header.lens ≡ (header_of (front ++ later)).lens
      unfolding header_of
      same_lens =
          let both = total_both front later in
          let count = so_many in
          let two = twos later (later_ranges front later ranges) (omega (arith, both, count, no_more)) in
          lens ∙ ap lens_from
          (ap (λ n. map len_of front ++ replicate n 2) (sym so_many) ∙ ap (λ ns. map len_of front ++ ns) (sym two) ∙ sym (map-append len_of front later))

      at_first : (pieces : List PieceValue) → ((header_of pieces).curr_inf ≡ 0) × ((header_of pieces).curr_hf ≡ 0)
      unfolding header_of
      at_first pieces = (refl, refl)

      meta : meta_of one.header ≡ meta_of (header_of (front ++ later))
      meta = same_meta one.header (header_of (front ++ later))
          (ap (λ (h : HeaderValue). h.curr_inf) own ∙ (at_first one.pieces).0 ∙ sym (at_first (front ++ later)).0)
          (ap (λ (h : HeaderValue). h.curr_hf) own ∙ (at_first one.pieces).1 ∙ sym (at_first (front ++ later)).1) same_lens

      -- its first pieces, as many as those of the front
      abbrev first : List PieceValue
      first = take (length front) one.pieces

      as_many : length first ≡ length front
      as_many = simp length-take (omega (arith, within))

      first_less : slice_cmp nat_cmp (infos_of first) (infos_of front) ≡ Less
      first_less =
          infos_as_numbers first front as_many
          ∙ ap (λ ns. slice_cmp nat_cmp ns (map info_number front)) (sym (take-map info_number (length front) one.pieces)) ∙ less

      fewer : slice_cmp nat_cmp (behind_meta one.header) (behind_meta (header_of (front ++ later))) ≡ Less
      fewer =
          let mine = behind_front first (drop (length front) one.pieces) in
          let theirs = behind_front front later in
          let is : behind_meta one.header ≡ infos_of first ++ mine.0 =
          ap behind_meta (own ∙ ap header_of (sym (take-append-drop (length front) one.pieces))) ∙ mine.1 in
          let long = infos_len first in
          let short = infos_len front in
          ap (λ bs. slice_cmp nat_cmp bs (behind_meta (header_of (front ++ later)))) is
          ∙ ap (slice_cmp nat_cmp (infos_of first ++ mine.0)) theirs.1
          ∙ cmp_front (infos_of first) (infos_of front) mine.0 theirs.0 (omega (arith, as_many, long, short)) first_less

      decided : path_cmp one (path_with (front ++ later) (header_of (front ++ later))) ≡ Less
      decided =
          let count = count_fields (front ++ later) in
          let hops = many front later ranges in
          let n = so_many in
          bytes_decide one (path_with (front ++ later) (header_of (front ++ later)))
          (omega (arith, same, count, hops, n, no_more))
          (decided_behind one.header (header_of (front ++ later)) meta fewer)

    pub before_equal : ComesBefore one front further
    unfolding ComesBefore
    before_equal = λ later ranges upto. elim (cases_lt (total_hops front + 2 * further) (total_hops (front ++ later))) [
      | inl more ↦
          (let count = count_fields (front ++ later) in fewer_hops one (path_with (front ++ later) (header_of (front ++ later))) (omega (arith, same, count, more)))
      | inr no_more ↦ decided later ranges upto no_more
    ]

-- ---- all kept paths

before_next : (one next : PathValue) (front : List PieceValue) (further : ℕ) → path_cmp one next ≡ Less
    → ComesBefore next front further → ComesBefore one front further
unfolding ComesBefore
before_next one next front further less before = λ later ranges upto.
    path_total.trans one next (path_with (front ++ later) (header_of (front ++ later))) less (before later ranges upto)

pub all_before_last : (paths : List PathValue) (last : PathValue) (front : List PieceValue) (further : ℕ)
    → InOrder path_cmp paths → slice_get paths (length paths - 1) ≡ Some last
    → ComesBefore last front further → AllByRecursion (λ (one : PathValue). ComesBefore one front further) paths
all_before_last [] last front further order is before = tt
all_before_last (one ∷ []) last front further order is before =
    (subst (λ (path : PathValue). ComesBefore path front further) (sym (same_Some one last is)) before, tt)
all_before_last (one ∷ next ∷ paths) last front further order is before =
    let place : length (one ∷ next ∷ paths) - 1 ≡ suc (length (next ∷ paths) - 1) = omega arith in
    let more =
    all_before_last (next ∷ paths) last front further order.1 (subst (λ (n : ℕ). slice_get (one ∷ next ∷ paths) n ≡ Some last) place is) before in
    (before_next one next front further order.0.0 more.0, more)

pub are_before : (limit : ℕ) (paths : List PathValue) (last : PathValue) (front : List PieceValue) (further : ℕ)
    → InOrder path_cmp paths → length paths ≡ limit
    → slice_get paths (length paths - 1) ≡ Some last → ComesBefore last front further
    → AreBefore limit paths front further
unfolding AreBefore
are_before limit paths last front further order full is before =
    (full, all_before_last paths last front further order is before)

each_before : (paths : List PathValue) (front later : List PieceValue) (further : ℕ) (header : HeaderValue)
    → AllByRecursion (λ (one : PathValue). ComesBefore one front further) paths
    → All HasRange (front ++ later) → further ≤ length later → header ≡ header_of (front ++ later)
    → AllByRecursion (λ (one : PathValue). path_cmp one (path_with (front ++ later) header) ≡ Less) paths
unfolding ComesBefore
each_before [] front later further header all ranges upto is = tt
each_before (one ∷ paths) front later further header all ranges upto is = (
  subst (λ (h : HeaderValue). path_cmp one (path_with (front ++ later) h) ≡ Less) (sym is) (all.0 later ranges upto),
  each_before paths front later further header all.1 ranges upto is,
)

module _ (question : Question) (limit : ℕ) (paths : List PathValue) (front : List PieceValue) (further : ℕ)
    (before : AreBefore limit paths front further) where
  pub met_later : (later : List PieceValue) → further ≤ length later → IsMetBy question limit paths (front ++ later)
  unfolding IsMetBy AreBefore
  met_later later upto = λ header best.
      inr (before.0, each_before paths front later further header before.1 (path_kept best.candidate.accepted).ranges upto (header_kept best.candidate.accepted))

-- ---- groups

-- each number is no less than the lower bound at its place
abbrev AreUpTo : (least numbers : List ℕ) → Type 0
AreUpTo [] [] = Unit {0}
AreUpTo [] (n ∷ ns) = ⊥
AreUpTo (l ∷ least) [] = ⊥
AreUpTo (l ∷ least) (n ∷ ns) = (l ≤ n) × AreUpTo least ns

first_upto : (x l y : ℕ) (rest more : Ordering) → ordering_then (nat_cmp x l) rest ≡ Less → l ≤ y
    → (rest ≡ Less → more ≡ Less) → ordering_then (nat_cmp x y) more ≡ Less
first_upto x l y rest more is upto on = elim (cases_lt x y) [
  | inl less ↦ ap (λ c. ordering_then c more) (sym (nat_cmp_is x y Less less))
  | inr ge ↦
      (let over : l ≤ x = omega (arith, upto, ge) in
      elim (cases_lt l x) [
        | inl more_than ↦ absurd (let clash : Greater ≡ Less = ap (λ c. ordering_then c rest) (nat_cmp_is x l Greater more_than) ∙ is in cc)
        | inr at ↦
            (let equal : x ≡ l = omega (arith, over, at) in
            let same : x ≡ y = omega (arith, upto, ge, equal) in
            ap (λ c. ordering_then c more) (sym (nat_cmp_is x y Equal same))
            ∙ on (ap (λ c. ordering_then c rest) (nat_cmp_is x l Equal equal) ∙ is))
      ])
]

infos_upto : (least : List ℕ) (groups : List GroupValue) (pieces : List PieceValue) → HaveInfosFrom least groups
    → AreOf groups pieces → AreUpTo least (map info_number pieces)
infos_upto [] [] [] from of = tt
infos_upto [] [] (piece ∷ pieces) from of = absurd of
infos_upto [] (group ∷ groups) pieces from of = absurd from
infos_upto (l ∷ least) [] pieces from of = absurd from
infos_upto (l ∷ least) (group ∷ groups) [] from of = absurd of
infos_upto (l ∷ least) (group ∷ groups) (piece ∷ pieces) from of =
    (from.0 piece of.0, infos_upto least groups pieces from.1 of.1)

upto_many : (least : List ℕ) (groups : List GroupValue) (pieces : List PieceValue) → HaveInfosFrom least groups
    → AreOf groups pieces → length least ≡ length pieces
upto_many [] [] [] from of = refl
upto_many [] [] (piece ∷ pieces) from of = absurd of
upto_many [] (group ∷ groups) pieces from of = absurd from
upto_many (l ∷ least) [] pieces from of = absurd from
upto_many (l ∷ least) (group ∷ groups) [] from of = absurd of
upto_many (l ∷ least) (group ∷ groups) (piece ∷ pieces) from of =
    (let more = upto_many least groups pieces from.1 of.1 in omega (arith, more))

-- numbers that come before lower bounds come before what these bound
less_upto : (xs least ys : List ℕ) → slice_cmp nat_cmp xs least ≡ Less → AreUpTo least ys → slice_cmp nat_cmp xs ys ≡ Less
less_upto [] [] ys is upto = absurd cc
less_upto (x ∷ xs) [] ys is upto = absurd cc
less_upto [] (l ∷ least) [] is upto = absurd upto
less_upto [] (l ∷ least) (y ∷ ys) is upto = refl
less_upto (x ∷ xs) (l ∷ least) [] is upto = absurd upto
less_upto (x ∷ xs) (l ∷ least) (y ∷ ys) is upto =
    first_upto x l y (slice_cmp nat_cmp xs least) (slice_cmp nat_cmp xs ys) is upto.0
    (λ less. less_upto xs least ys less upto.1)

-- one piece more of each list of groups
pub total_with : (groups : List GroupValue) (group : GroupValue)
    → total_hops (heads_of (groups ++ group ∷ [])) ≡ total_hops (heads_of groups) + len_of group.head
total_with groups group =
    let both = total_both (heads_of groups) (group.head ∷ []) in
    let one = sum_by-cons len_of group.head [] in
    let parts = ap total_hops (map-append (λ (g : GroupValue). g.head) groups (group ∷ [])) in
    omega (arith, both, one, parts)

module _ (one : PathValue) (groups : List GroupValue) (further : ℕ) (are : AllByRecursion IsGroup groups) where
  pub before_longer_choices : length one.header.hops < total_hops (heads_of groups) + 2 * further
      → OfChoices (λ pieces. ComesBefore one pieces further) groups
  before_longer_choices less = λ pieces of.
      let hops = total_alike (heads_of groups) pieces (heads_alike groups pieces are of) in
      before_longer one pieces further (omega (arith, less, hops))

  pub before_equal_choices : (least : List ℕ) → one.header ≡ header_of one.pieces
      → length one.header.hops ≡ total_hops (heads_of groups) + 2 * further
      → one.header.lens ≡ lens_from (map len_of (heads_of groups) ++ replicate further 2)
      → HaveInfosFrom least groups → length least ≤ length (map info_number one.pieces)
      → slice_cmp nat_cmp (take (length least) (map info_number one.pieces)) least ≡ Less
      → OfChoices (λ pieces. ComesBefore one pieces further) groups
  before_equal_choices least own same lens from within less = λ pieces of.
      let hops = total_alike (heads_of groups) pieces (heads_alike groups pieces are of) in
      let long = length-map one.pieces info_number in
      let many = upto_many least groups pieces from of in
      before_equal one pieces further own (omega (arith, same, hops))
      (lens ∙ ap (λ ns. lens_from (ns ++ replicate further 2)) (lens_alike (heads_of groups) pieces (heads_alike groups pieces are of)))
      (omega (arith, long, many, within))
      (ap (λ n. slice_cmp nat_cmp (take n (map info_number one.pieces)) (map info_number pieces)) (sym many)
      ∙ less_upto (take (length least) (map info_number one.pieces)) least (map info_number pieces) less (infos_upto least groups pieces from of))

pub lens_there : (pieces : List PieceValue) → (header_of pieces).lens ≡ lens_from (map len_of pieces)
unfolding header_of
lens_there pieces = refl
