-- What a search over the blocks finds.
use Rattle.std.proofs.Common.{◌≡◌, ◌⊎◌, ℕ, zero, suc, ◌+◌, ◌-◌, ◌<◌, ◌≤◌, not, ◌||◌, filter, All, Bool, true, false, Option, Some, None, IfSome, List, [], ◌∷◌, ◌++◌, length, get_or, take, drop, refl, ap, sym, subst, ◌∙◌, inl, inr, arith}
use Rattle.std.specs.List.{AllWithin, list_any}
use Rattle.std.proofs.lemmas.List.Folds.{list_any-append}
use Rattle.std.specs.List.Sorted.{IsNonDecreasingBy, IsPartitionedBy}
use Rattle.std.proofs.lemmas.Bool.{cases_eq, and_left, and_right, not-true, not-false, ltb-false, ltb-true, le-ltb, lt-ltb, lt-leb, true≢false}
use Rattle.std.proofs.lemmas.List.Elements.{All-from_all_within, All-weaker, filter-append}
use Rattle.std.proofs.lemmas.List.Sorted.{IsNonDecreasingBy-take, IsNonDecreasingBy-drop}
use Rattle.std.proofs.lemmas.List.{append-nil, take-append-drop, take_at, drop_at, take_all, take_more, length-append, length-take, length-drop, get_or-take, get_or-drop, get_or_append_left}
use Rattle.std.proofs.lemmas.List.Concat.{flat_map-append}
use Rattle.path_segment.specs.Chain.{Chain}
use Rattle.path_server.specs.Index.{rank_at}
use Rattle.path_server.specs.inner.Index.{lies_between}
use Rattle.path_server.specs.inner.Blocks.{Block, joined, position, begins_within, begins_below, AreFilled, IsSpot, FrontOf, RestOf}
use Rattle.path_server.proofs.Joined.{FilledAt, at_block, starts_rise, ends_within}

first_within : (segments : List Chain) (bound : ℕ) (items : List ℕ) (e : ℕ) → begins_within segments bound items ≡ true
    → 0 < length items → rank_at segments (get_or items 0 e) ≤ bound
first_within segments bound [] e passes some = absurd (omega (arith, some))
first_within segments bound (x ∷ xs) e passes some = ltb-false _ _ (not-true _ passes)

within_from_first : (segments : List Chain) (bound : ℕ) (items : List ℕ)
    → ((e : ℕ) → 0 < length items → rank_at segments (get_or items 0 e) ≤ bound) → begins_within segments bound items ≡ true
within_from_first segments bound [] low = refl
within_from_first segments bound (x ∷ xs) low =
    let first = low x (omega arith) in ap not (le-ltb bound _ first)

first_above : (segments : List Chain) (bound : ℕ) (items : List ℕ) (e : ℕ) → begins_within segments bound items ≡ false
    → (0 < length items) × (bound < rank_at segments (get_or items 0 e))
first_above segments bound [] e fails = absurd (true≢false fails)
first_above segments bound (x ∷ xs) e fails = (omega arith, ltb-true _ _ (not-false _ fails))

-- the elements of one block are in order
pub block_rises : (segments : List Chain) (bs : List Block) (b : ℕ) (d : Block) → IsNonDecreasingBy (rank_at segments) (joined bs)
    → b < length bs → IsNonDecreasingBy (rank_at segments) (get_or bs b d).items
block_rises segments bs b d rises within i j e upward inside =
    let one = ap (rank_at segments) (at_block bs b i d e within (omega arith)) in
    let other = ap (rank_at segments) (at_block bs b j d e within inside) in
    let end = ends_within bs b d within in
    let rise = rises (position bs b i) (position bs b j) e (omega arith) (omega arith) in
    omega arith

-- the blocks that begin within a bound come first
pub begins_parted : (segments : List Chain) (bs : List Block) (bound : ℕ) → IsNonDecreasingBy (rank_at segments) (joined bs)
    → AreFilled bs → IsPartitionedBy (λ (b : Block). begins_within segments bound b.items) bs
begins_parted segments bs bound rises filled i j d upward within passes = elim (cases_eq i j) [
  | inl same ↦ subst (λ k. begins_within segments bound (get_or bs k d).items ≡ true) (sym same) passes
  | inr apart ↦ within_from_first segments bound (get_or bs i d).items (λ e some. (
      let before : i < j = omega arith in
      let some_j = (filled j d within).0 (omega arith) in
      let first = first_within segments bound (get_or bs j d).items e passes some_j in
      let one = ap (rank_at segments) (at_block bs i 0 d e (omega arith) some) in
      let other = ap (rank_at segments) (at_block bs j 0 d e within some_j) in
      let apart = starts_rise bs i j d before (omega arith) in
      let end = ends_within bs j d within in
      let rise = rises (position bs i 0) (position bs j 0) e (omega arith) (omega arith) in
      omega arith))
]

-- all before the position that was found are within the bound
pub found_below : (segments : List Chain) (bs : List Block) (bound b off : ℕ) (d : Block) → IsNonDecreasingBy (rank_at segments) (joined bs)
    → AreFilled bs → b < length bs → begins_within segments bound (get_or bs b d).items ≡ true
    → off ≤ length (get_or bs b d).items
    → AllWithin (λ place. rank_at segments place ≤ bound) (get_or bs b d).items 0 off
    → AllWithin (λ place. bound < rank_at segments place) (get_or bs b d).items off (length (get_or bs b d).items)
    → AllWithin (λ place. rank_at segments place ≤ bound) (joined bs) 0 (position bs b off)
found_below segments bs bound zero zero d rises filled within begins low below rest k e from high = absurd (omega (arith, high))
found_below segments bs bound (suc b) zero d rises filled within begins low below rest k e from high =
    let some = (filled (suc b) d within).0 (omega arith) in
    let first = first_within segments bound (get_or bs (suc b) d).items e begins some in
    let above = rest 0 e (omega arith) some in
    absurd (omega arith)
found_below segments bs bound b (suc off) d rises filled within begins low below rest k e from high =
    let one = ap (rank_at segments) (at_block bs b off d e within (omega arith)) in
    let last = below off e (omega arith) (omega arith) in
    let end = ends_within bs b d within in
    let rise = rises k (position bs b off) e (omega arith) (omega arith) in
    omega arith

next_start : (bs : List Block) (b : ℕ) (d : Block) → b < length bs
    → position bs (b + 1) 0 ≡ position bs b 0 + length (get_or bs b d).items
next_start bs b d within =
    let more = ap (λ some. length (joined some)) (take_more bs b d within) in
    let parts = ap length (flat_map-append (λ (b : Block). b.items) (take b bs) (get_or bs b d ∷ [])) in
    let sum = length-append (joined (take b bs)) ((get_or bs b d).items ++ []) in
    let one = length-append (get_or bs b d).items [] in
    omega arith

-- all from the position that was found are above the bound
pub found_rest : (segments : List Chain) (bs : List Block) (bound b off : ℕ) (d : Block) → IsNonDecreasingBy (rank_at segments) (joined bs)
    → b < length bs → off ≤ length (get_or bs b d).items
    → AllWithin (λ place. bound < rank_at segments place) (get_or bs b d).items off (length (get_or bs b d).items)
    → (b + 1 < length bs → begins_within segments bound (get_or bs (b + 1) d).items ≡ false)
    → AllWithin (λ place. bound < rank_at segments place) (joined bs) (position bs b off) (length (joined bs))
found_rest segments bs bound b off d rises within low rest next k e from high =
    elim (cases_eq off (length (get_or bs b d).items)) [
      | inl whole ↦ elim (cases_eq (b + 1) (length bs)) [
        | inl last ↦
            (let all = ap (λ some. length (joined some)) (take_all (b + 1) bs (omega arith)) in
            let start = next_start bs b d within in
            absurd (omega arith))
        | inr more ↦
            (let inside : b + 1 < length bs = omega arith in
            let first = first_above segments bound (get_or bs (b + 1) d).items e (next inside) in
            let some = first.0 in
            let above = first.1 in
            let start = next_start bs b d within in
            let one = ap (rank_at segments) (at_block bs (b + 1) 0 d e inside some) in
            let rise = rises (position bs (b + 1) 0) k e (omega arith) high in
            omega arith)
      ]
      | inr part ↦
          (let one = ap (rank_at segments) (at_block bs b off d e within (omega arith)) in
          let above = rest off e (omega arith) (omega arith) in
          let rise = rises (position bs b off) k e from high in
          omega arith)
    ]

-- where the first block begins above the bound, all are above it
pub found_none : (segments : List Chain) (bs : List Block) (bound : ℕ) → IsNonDecreasingBy (rank_at segments) (joined bs)
    → ((d : Block) → 0 < length bs → begins_within segments bound (get_or bs 0 d).items ≡ false)
    → AllWithin (λ place. bound < rank_at segments place) (joined bs) 0 (length (joined bs))
found_none segments [] bound rises above k e from high = absurd (omega (arith, high))
found_none segments (b ∷ bs) bound rises above k e from high =
    let first = first_above segments bound b.items e (above b (omega arith)) in
    let some = first.0 in
    let high_first = first.1 in
    let one = ap (rank_at segments) (at_block (b ∷ bs) 0 0 b e (omega arith) some) in
    let rise = rises 0 k e (omega arith) high in
    omega arith

-- ---- the blocks between two bounds

first_below : (segments : List Chain) (bound : ℕ) (items : List ℕ) (e : ℕ)
    → begins_below segments bound items ≡ true
    → 0 < length items → rank_at segments (get_or items 0 e) < bound
first_below segments bound [] e passes some = absurd (omega (arith, some))
first_below segments bound (x ∷ xs) e passes some = ltb-true _ _ passes

below_from_first : (segments : List Chain) (bound : ℕ) (items : List ℕ)
    → ((e : ℕ) → 0 < length items → rank_at segments (get_or items 0 e) < bound)
    → begins_below segments bound items ≡ true
below_from_first segments bound [] low = refl
below_from_first segments bound (x ∷ xs) low = let first = low x (omega arith) in lt-ltb _ _ first

-- the blocks that begin below a bound come first
pub begins_below_parted : (segments : List Chain) (bs : List Block) (bound : ℕ) → IsNonDecreasingBy (rank_at segments) (joined bs)
    → AreFilled bs → IsPartitionedBy (λ (b : Block). begins_below segments bound b.items) bs
begins_below_parted segments bs bound rises filled i j d upward within passes = elim (cases_eq i j) [
  | inl same ↦ subst (λ k. begins_below segments bound (get_or bs k d).items ≡ true) (sym same) passes
  | inr apart ↦ below_from_first segments bound (get_or bs i d).items (λ e some. (
      let before : i < j = omega arith in
      let some_j = (filled j d within).0 (omega arith) in
      let first = first_below segments bound (get_or bs j d).items e passes some_j in
      let one = ap (rank_at segments) (at_block bs i 0 d e (omega arith) some) in
      let other = ap (rank_at segments) (at_block bs j 0 d e within some_j) in
      let apart = starts_rise bs i j d before (omega arith) in
      let end = ends_within bs j d within in
      let rise = rises (position bs i 0) (position bs j 0) e (omega arith) (omega arith) in
      omega arith))
]

-- the lists before and behind a block
pub joined_split : (bs : List Block) (i : ℕ) → joined bs ≡ joined (take i bs) ++ joined (drop i bs)
joined_split bs i =
    ap joined (sym (take-append-drop i bs)) ∙ flat_map-append (λ (b : Block). b.items) (take i bs) (drop i bs)

nothing_passes : (p : ℕ → Bool) (xs : List ℕ) → All (λ x. p x ≡ false) xs → filter p xs ≡ []
nothing_passes p [] fails = refl
nothing_passes p (x ∷ xs) fails =
    rw (fails 0 x (omega arith)) (nothing_passes p xs (λ k d within. fails (suc k) d (omega arith)))

-- where the next block begins above a bound, all behind are above it
above_behind : (segments : List Chain) (bs : List Block) (bound end : ℕ) → IsNonDecreasingBy (rank_at segments) (joined bs)
    → end ≤ length bs → AllWithin (λ (b : Block). begins_within segments bound b.items ≡ false) bs end (length bs)
    → All (λ place. bound < rank_at segments place) (joined (drop end bs))
above_behind segments bs bound end rises low above =
    let rest = joined_split bs end in
    let behind : IsNonDecreasingBy (rank_at segments) (joined (drop end bs)) =
    subst (IsNonDecreasingBy (rank_at segments)) (ap (drop (position bs end 0)) rest ∙ drop_at (joined (take end bs)) (joined (drop end bs)) (position bs end 0) (omega arith))
    (IsNonDecreasingBy-drop (rank_at segments) (position bs end 0) (joined bs) rises) in
    All-from_all_within (λ place. bound < rank_at segments place) (joined (drop end bs))
    (found_none segments (drop end bs) bound behind (λ d some. (
    let long = length-drop end bs in
    ap (λ (b : Block). begins_within segments bound b.items) (get_or-drop end bs 0 d) ∙ above (end + 0) d (omega arith) (omega arith))))

-- where a block begins below a bound, all before it are below the bound
below_before : (segments : List Chain) (bs : List Block) (bound start : ℕ) → IsNonDecreasingBy (rank_at segments) (joined bs)
    → AreFilled bs → start < length bs → (d : Block) → begins_below segments bound (get_or bs start d).items ≡ true
    → All (λ place. rank_at segments place < bound) (joined (take start bs))
below_before segments bs bound zero rises filled within d begins k e inside = absurd (omega (arith, inside))
below_before segments bs bound (suc start) rises filled within d begins k e inside =
    let at = suc start in
    let some = (filled at d within).0 (omega arith) in
    let first = first_below segments bound (get_or bs at d).items e begins some in
    let one = ap (rank_at segments) (at_block bs at 0 d e within some) in
    let end = ends_within bs at d within in
    let rise = rises k (position bs at 0) e (omega arith) (omega arith) in
    let same = ap (λ all. rank_at segments (get_or all k e)) (joined_split bs at) in
    let front = ap (rank_at segments) (get_or_append_left (joined (take at bs)) (joined (drop at bs)) e k inside) in
    omega arith

low_fails : (segments : List Chain) (low high place : ℕ) → rank_at segments place < low → lies_between segments low high place ≡ false
low_fails segments low high place below = and_left _ _ (lt-leb low (rank_at segments place) below)

high_fails : (segments : List Chain) (low high place : ℕ) → high < rank_at segments place → lies_between segments low high place ≡ false
high_fails segments low high place above = and_right _ _ (lt-leb (rank_at segments place) high above)

front_rises : (segments : List Chain) (bs : List Block) (end : ℕ) → IsNonDecreasingBy (rank_at segments) (joined bs)
    → IsNonDecreasingBy (rank_at segments) (joined (take end bs))
front_rises segments bs end rises =
    subst (IsNonDecreasingBy (rank_at segments))
    (ap (take (position bs end 0)) (joined_split bs end) ∙ take_at (joined (take end bs)) (joined (drop end bs)) (position bs end 0) (omega arith))
    (IsNonDecreasingBy-take (rank_at segments) (position bs end 0) (joined bs) rises)

rest_rises : (segments : List Chain) (bs : List Block) (start : ℕ) → IsNonDecreasingBy (rank_at segments) (joined bs)
    → IsNonDecreasingBy (rank_at segments) (joined (drop start bs))
rest_rises segments bs start rises =
    subst (IsNonDecreasingBy (rank_at segments))
    (ap (drop (position bs start 0)) (joined_split bs start) ∙ drop_at (joined (take start bs)) (joined (drop start bs)) (position bs start 0) (omega arith))
    (IsNonDecreasingBy-drop (rank_at segments) (position bs start 0) (joined bs) rises)

front_filled : (bs : List Block) (end : ℕ) → AreFilled bs → AreFilled (take end bs)
front_filled bs end filled k d inside =
    let long = length-take end bs in
    subst (FilledAt k) (sym (get_or-take end bs k d (omega arith))) (filled k d (omega arith))

rest_filled : (bs : List Block) (start : ℕ) → AreFilled bs → AreFilled (drop start bs)
rest_filled bs start filled k d inside =
    let long = length-drop start bs in
    let one = filled (start + k) d (omega arith) in
    subst (FilledAt k) (sym (get_or-drop start bs k d)) (λ some. one.0 (omega arith), one.1)

pub front_is : (segments : List Chain) (bs : List Block) (high end : ℕ) → IsNonDecreasingBy (rank_at segments) (joined bs)
    → AreFilled bs → end ≤ length bs → AllWithin (λ (b : Block). begins_within segments high b.items ≡ false) bs end (length bs)
    → FrontOf segments high bs (take end bs)
front_is segments bs high end rises filled low above = record {
  part = λ low_bound. (
      let p = lies_between segments low_bound high in
      let none = nothing_passes p (joined (drop end bs)) (All-weaker (λ place. high < rank_at segments place) (λ place. p place ≡ false) (high_fails segments low_bound high) _ (above_behind segments bs high end rises low above)) in
      sym (ap (filter p) (joined_split bs end) ∙ filter-append p (joined (take end bs)) (joined (drop end bs))
      ∙ ap (λ rest. filter p (joined (take end bs)) ++ rest) none ∙ append-nil (filter p (joined (take end bs)))));
  rises = front_rises segments bs end rises;
  filled = front_filled bs end filled;
}

cases_bs : (bs : List Block) → (bs ≡ []) ⊎ Block
cases_bs [] = inl refl
cases_bs (b ∷ bs) = inr b

pub rest_is : (segments : List Chain) (bs : List Block) (low starts : ℕ) → IsNonDecreasingBy (rank_at segments) (joined bs)
    → AreFilled bs → starts ≤ length bs → AllWithin (λ (b : Block). begins_below segments low b.items ≡ true) bs 0 starts
    → RestOf segments low bs (drop (starts - 1) bs)
rest_is segments bs low starts rises filled few below = record {
  part = λ high. elim (cases_eq (starts - 1) 0) [
    | inl none ↦ ap (λ n. filter (lies_between segments low high) (joined (drop n bs))) none
    | inr some ↦ (
        let start = starts - 1 in
        let p = lies_between segments low high in
        let nothing : filter p (joined (take start bs)) ≡ [] = nothing_passes p (joined (take start bs)) (λ k e inside. (
        elim (cases_bs bs) [
          | inl empty ↦ absurd (let long = ap length empty in omega arith)
          | inr d ↦ low_fails segments low high _ (below_before segments bs low start rises filled (omega arith) d (below start d (omega arith) (omega arith)) k e inside)
        ])) in
        sym (ap (filter p) (joined_split bs start) ∙ filter-append p (joined (take start bs)) (joined (drop start bs))
        ∙ ap (λ front. front ++ filter p (joined (drop start bs))) nothing))
  ];
  rises = rest_rises segments bs (starts - 1) rises;
  filled = rest_filled bs (starts - 1) filled;
}

-- ---- what is kept, block by block

pub kept_more : (p : ℕ → Bool) (bs : List Block) (i : ℕ) (d : Block) → i < length bs
    → filter p (joined (take (i + 1) bs)) ≡ filter p (joined (take i bs)) ++ filter p (get_or bs i d).items
kept_more p bs i d within =
    ap (λ some. filter p (joined some)) (take_more bs i d within)
    ∙ ap (filter p) (flat_map-append (λ (b : Block). b.items) (take i bs) (get_or bs i d ∷ []))
    ∙ ap (λ it. filter p (joined (take i bs) ++ it)) (append-nil (get_or bs i d).items)
    ∙ filter-append p (joined (take i bs)) (get_or bs i d).items

pub kept_at_most : (p : ℕ → Bool) (bs : List Block) (i : ℕ)
    → length (filter p (joined (take i bs))) ≤ length (filter p (joined bs))
kept_at_most p bs i =
    let parts = ap (λ all. length (filter p all)) (joined_split bs i) ∙ ap length (filter-append p (joined (take i bs)) (joined (drop i bs))) in
    let sum = length-append (filter p (joined (take i bs))) (filter p (joined (drop i bs))) in
    omega arith

pub any_joined : (q p : ℕ → Bool) (bs : List Block)
    → list_any q (filter p (joined bs)) ≡ list_any (λ (b : Block). list_any q (filter p b.items)) bs
any_joined q p [] = refl
any_joined q p (b ∷ bs) =
    ap (list_any q) (filter-append p b.items (joined bs))
    ∙ list_any-append q (filter p b.items) (filter p (joined bs))
    ∙ ap (λ rest. list_any q (filter p b.items) || rest) (any_joined q p bs)

some_block : (bs : List Block) (b : ℕ) → b < length bs → Block
some_block [] b within = absurd (omega (arith, within))
some_block (x ∷ bs) b within = x

-- a place to insert at lies in the list or at its end
pub spot_within : (bs : List Block) (b off : ℕ) → IsSpot bs b off → position bs b off ≤ length (joined bs)
spot_within bs b off (inl lies) =
    let low = lies.1 (some_block bs b lies.0) in
    let end = ends_within bs b (some_block bs b lies.0) lies.0 in
    omega arith
spot_within bs b off (inr none) =
    let start = ap (λ n. length (joined (take n bs))) none.1 in
    omega (arith, start, none.2)

pub some_weaker : (o : Option ℕ) (P Q : ℕ → Type 0) → ((n : ℕ) → P n → Q n) → IfSome o P → IfSome o Q
some_weaker None P Q f p = tt
some_weaker (Some n) P Q f p = f n p
