-- What a sweep leaves of a list in blocks.
use Rattle.std.proofs.Common.{◌≡◌, ℕ, zero, suc, ◌+◌, ◌-◌, ◌*◌, ◌<◌, ◌≤◌, nat_eq, not, cond, Bool, true, false, Option, List, [], ◌∷◌, ◌++◌, length, get_or, take, drop, set, map, filter, count_by, All, min, refl, ap, sym, ◌∙◌, inl, inr, arith}
use Rattle.std.specs.Prelude.{vec_len}
use Rattle.std.specs.List.{filter_map}
use Rattle.std.proofs.lemmas.Bool.{cases_Bool, cases_eq, not-true, not-false, eqb-true, true≢false, eqb-false}
use Rattle.std.proofs.lemmas.List.Concat.{flat_map-append}
use Rattle.std.proofs.lemmas.List.{append-nil, take_more, take_more_set, drop-set-lt, drop-drop, get_or-drop, get_or_push, get_or_append_left, take-append-drop, take-take, drop-take, take_min, nil_from_length}
use Rattle.std.proofs.lemmas.List.Elements.{filter_map-append, filter_passes, All-filter, All-weaker}
use Rattle.std.proofs.lemmas.List.Sums.{sum_by-append}
use Rattle.path_segment.specs.Chain.{Chain}
use Rattle.path_segment.specs.Tests.{is_live}
use Rattle.path_server.specs.inner.Index.{passes_at}
use Rattle.path_server.specs.inner.Blocks.{Block, joined, AreFilled, kept_before, moved_to}

-- what passes in a front is what passes in a shorter one and in what is between
pub counted : {X : Type 0} (p : X → Bool) (xs : List X) (m n : ℕ) → m ≤ n
    → count_by p (take n xs) ≡ count_by p (take m xs) + count_by p (take (n - m) (drop m xs))
counted p xs m n low =
    let more : n ≡ m + (n - m) = omega arith in
    ap (count_by p) (sym (take-append-drop m (take n xs)))
    ∙ sum_by-append (λ x. cond (p x) 1 0) (take m (take n xs)) (drop m (take n xs))
    ∙ ap (λ front. count_by p front + count_by p (drop m (take n xs))) (take-take m n xs low)
    ∙ ap (λ k. count_by p (take m xs) + count_by p (drop m (take k xs))) more
    ∙ ap (λ rest. count_by p (take m xs) + count_by p rest) (drop-take m (n - m) xs)

-- the moved places are those that are kept, each moved
pub moved_is : (now : ℕ) (segments : List Chain) (places : List ℕ)
    → map (kept_before now segments) (filter (passes_at (is_live now) segments) places) ≡ filter_map (moved_to now segments) places
moved_is now segments [] = refl
moved_is now segments (x ∷ xs) = elim (cases_Bool (passes_at (is_live now) segments x)) [
  | inl kept ↦ rw kept (ap (λ rest. kept_before now segments x ∷ rest) (moved_is now segments xs))
  | inr left ↦ rw left (moved_is now segments xs)
]

-- the block has a place
abbrev pub has_some : Block → Bool
has_some b = not (nat_eq (vec_len b) 0)

none_in : (b : Block) → has_some b ≡ false → b.items ≡ []
none_in b fails =
    let none = eqb-true _ _ (not-false _ fails) in
    nil_from_length b.items (omega (arith, none, b.ok.0))

-- empty blocks have no places
pub joined_some : (bs : List Block) → joined (filter has_some bs) ≡ joined bs
joined_some [] = refl
joined_some (b ∷ bs) = elim (cases_Bool (has_some b)) [
  | inl some ↦ rw some (ap (λ rest. b.items ++ rest) (joined_some bs))
  | inr none ↦ rw none (joined_some bs ∙ ap (λ it. it ++ joined bs) (sym (none_in b none)))
]

some_in : (b : Block) → has_some b ≡ true → 0 < length b.items
some_in b some =
    let more = eqb-false _ _ (not-true _ some) in
    omega (arith, more, b.ok.0)

pub filled_some : (bs : List Block) → All (λ (b : Block). length b.items ≤ 512) bs → AreFilled (filter has_some bs)
filled_some bs short k d within =
    let some = filter_passes has_some bs k d within in
    let few = All-filter has_some (λ (b : Block). length b.items ≤ 512) bs short k d within in
    (λ _. some_in (get_or (filter has_some bs) k d) some, few)

kept_is_there : (now : ℕ) (segments : List Chain) (place : ℕ) → passes_at (is_live now) segments place ≡ true → place < length segments
kept_is_there now [] place kept = absurd (true≢false (sym kept))
kept_is_there now (segment ∷ segments) zero kept = omega arith
kept_is_there now (segment ∷ segments) (suc place) kept = let rest = kept_is_there now segments place kept in omega arith

pub kept_are_there : (now : ℕ) (segments : List Chain) (places : List ℕ) → All (λ place. place < length segments) (filter (passes_at (is_live now) segments) places)
kept_are_there now segments places =
    All-weaker (λ place. passes_at (is_live now) segments place ≡ true) (λ place. place < length segments) (kept_is_there now segments) _
    (filter_passes (passes_at (is_live now) segments) places)

-- the kept segments before the next eighth place
pub counted_on : (now : ℕ) (segments : List Chain) (start m : ℕ) → m ≡ min (start * 8 + 8) (length segments)
    → start * 8 ≤ length segments
    → kept_before now segments (8 * start) + count_by (is_live now) (take (m - start * 8) (drop (start * 8) segments))
    ≡ kept_before now segments (8 * (start + 1))
counted_on now segments start m is low =
    let p = is_live now in
    let parts = counted p segments (start * 8) m (omega arith) in
    let all = ap (λ k. count_by p (take k segments)) is ∙ ap (count_by p) (take_min (start * 8 + 8) segments) in
    let here : 8 * start ≡ start * 8 = omega arith in
    let next : start * 8 + 8 ≡ 8 * (start + 1) = omega arith in
    let first = ap (kept_before now segments) here in
    let last = ap (kept_before now segments) next in
    omega arith

-- one more count
pub counts_more : (now : ℕ) (segments : List Chain) (counts : List ℕ) (start kept : ℕ) → length counts ≡ start
    → ((k d : ℕ) → k < start → get_or counts k d ≡ kept_before now segments (8 * k))
    → kept ≡ kept_before now segments (8 * start)
    → (k d : ℕ) → k < start + 1 → get_or (counts ++ kept ∷ []) k d ≡ kept_before now segments (8 * k)
counts_more now segments counts start kept long each is k d within = elim (cases_eq k start) [
  | inl last ↦
      ap (λ n. get_or (counts ++ kept ∷ []) n d) last ∙ get_or_push counts kept d start long
      ∙ is ∙ ap (λ n. kept_before now segments (8 * n)) (sym last)
  | inr before ↦ get_or_append_left counts (kept ∷ []) d k (omega arith) ∙ each k d (omega arith)
]

-- one more block is swept
pub swept_more : (m : ℕ → Option ℕ) (bs old : List Block) (i : ℕ) (b d : Block) → i < length bs
    → length bs ≡ length old → drop i bs ≡ drop i old
    → joined (take i bs) ≡ filter_map m (joined (take i old))
    → b.items ≡ filter_map m (get_or bs i d).items
    → joined (take (i + 1) (set bs i b)) ≡ filter_map m (joined (take (i + 1) old))
swept_more m bs old i b d within long rest swept one =
    let same : get_or bs i d ≡ get_or old i d = ap (λ n. get_or bs n d) (omega arith) ∙ sym (get_or-drop i bs 0 d) ∙ ap (λ all. get_or all 0 d) rest ∙ get_or-drop i old 0 d ∙ ap (λ n. get_or old n d) (omega arith) in
    let items = λ (b : Block). b.items in
    let all : joined (take (i + 1) old) ≡ joined (take i old) ++ ((get_or old i d).items ++ []) =
    ap joined (take_more old i d (omega arith)) ∙ flat_map-append (λ (b : Block). b.items) (take i old) (get_or old i d ∷ []) in
    ap joined (take_more_set bs i b within)
    ∙ flat_map-append (λ (b : Block). b.items) (take i bs) (b ∷ [])
    ∙ ap (λ front. front ++ (b.items ++ [])) swept
    ∙ ap (λ it. filter_map m (joined (take i old)) ++ it) (append-nil b.items ∙ one ∙ ap (λ (b : Block). filter_map m b.items) same ∙ ap (filter_map m) (sym (append-nil (get_or old i d).items)))
    ∙ sym (filter_map-append m (joined (take i old)) ((get_or old i d).items ++ []))
    ∙ ap (filter_map m) (sym all)

pub rest_more : (bs old : List Block) (i : ℕ) (b : Block) → drop i bs ≡ drop i old
    → drop (i + 1) (set bs i b) ≡ drop (i + 1) old
rest_more bs old i b rest =
    drop-set-lt (i + 1) bs i b (omega arith) ∙ sym (drop-drop 1 i bs) ∙ ap (drop 1) rest ∙ drop-drop 1 i old
