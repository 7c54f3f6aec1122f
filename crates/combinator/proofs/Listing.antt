-- A walk in a list of walks in order: where it is found, and what an insertion keeps.
use Rattle.std.proofs.Common.{◌≡◌, ℕ, zero, suc, ◌+◌, ◌<◌, ◌≤◌, List, [], ◌∷◌, length, get_or, take, drop, insert, map, All, AllPairs, Contains, refl, sym, ap, subst, ◌∙◌, inl, inr, arith}
use Rattle.std.specs.Prelude.{◌⊎◌, Vec}
use Rattle.std.specs.declared.alloc.Global.{Global}
use Rattle.std.specs.declared.cmp.Ordering.TheVariants.{Less, Equal}
use Rattle.std.proofs.lemmas.List.{get_or-map}
use Rattle.std.proofs.lemmas.List.Elements.{All-append, All-cons, All-take, All-drop, All-from_recursion}
use Rattle.std.proofs.lemmas.List.Kept.{AllPairs-cons}
use Rattle.policy_expr.specs.declared.hop.WalkHop.{WalkHop}
use Rattle.combinator.specs.Order.{walk_cmp}
use Rattle.combinator.specs.inner.Gathered.{hops_in}
use Rattle.combinator.specs.inner.Placed.{InOrder, IsGap}
use Rattle.combinator.proofs.Inserted.{placed_of, order_inserted, put, put_insert, length_put}
use Rattle.combinator.proofs.Ranks.{same_walk, walk_total}

pub length_seen : (walks : List (Vec WalkHop Global)) → length (hops_in walks) ≡ length walks
length_seen [] = refl
length_seen (walk ∷ walks) = let rest = length_seen walks in omega (arith, rest)

-- what stands at a place of a list, seen through a function
pub seen_at : {X Y : Type 0} (f : X → Y) (xs : List X) (k : ℕ) (x : X) → k < length xs → x ≡ get_or xs k x
    → f x ≡ get_or (map f xs) k (f x)
seen_at f xs k x within is = ap f is ∙ sym (get_or-map f xs k x (f x) within)

map_put : {X Y : Type 0} (f : X → Y) (xs : List X) (p : ℕ) (x : X) → map f (put xs p x) ≡ put (map f xs) p (f x)
map_put f xs zero x = refl
map_put f [] (suc p) x = refl
map_put f (y ∷ ys) (suc p) x = ap (λ zs. f y ∷ zs) (map_put f ys p x)

pub map_insert : {X Y : Type 0} (f : X → Y) (xs : List X) (p : ℕ) (x : X)
    → map f (insert xs p x) ≡ insert (map f xs) p (f x)
map_insert f xs p x = ap (map f) (put_insert xs p x) ∙ map_put f xs p x ∙ sym (put_insert (map f xs) p (f x))

-- an equal walk is the walk
pub there_at : (walks : List (List WalkHop)) (k : ℕ) (one walk : List WalkHop) → k < length walks
    → one ≡ get_or walks k one → walk_cmp one walk ≡ Equal → Contains walks walk
there_at walks k one walk within is tie =
    let same = same_walk one walk tie in (
      k,
      within,
      (
          subst (λ (w : List WalkHop). get_or walks k w ≡ w) same (sym is)),
    )

-- ---- inserting

there_put : {X : Type 0} (xs : List X) (p : ℕ) (x : X) → Contains (put xs p x) x
there_put xs zero x = (0, omega arith, refl)
there_put [] (suc p) x = (0, omega arith, refl)
there_put (y ∷ ys) (suc p) x = let more = there_put ys p x in (suc more.0, (let within = more.1 in omega arith), more.2)

first_contained : {X : Type 0} (x : X) (xs : List X) → Contains (x ∷ xs) x
first_contained x xs = (0, omega arith, refl)

later_contained : {X : Type 0} (y : X) (xs : List X) (x : X) → Contains xs x → Contains (y ∷ xs) x
later_contained y xs x there = (suc there.0, (let within = there.1 in omega arith), there.2)

first_or_later : {X : Type 0} (y : X) (xs : List X) (x : X) → Contains (y ∷ xs) x → (y ≡ x) ⊎ Contains xs x
first_or_later y xs x (zero, within, is) = inl is
first_or_later y xs x (suc k, within, is) = inr (k, omega arith, is)

others_put : {X : Type 0} (xs : List X) (p : ℕ) (x z : X) → Contains xs z → Contains (put xs p x) z
others_put xs zero x z there = later_contained x xs z there
others_put [] (suc p) x z there = absurd (let within = there.1 in omega arith)
others_put (y ∷ ys) (suc p) x z there = elim (first_or_later y ys z there) [
  | inl same ↦ subst (λ w. Contains (y ∷ put ys p x) w) same (first_contained y (put ys p x))
  | inr more ↦ later_contained y (put ys p x) z (others_put ys p x z more)
]

module _ (walks new : List (Vec WalkHop Global)) (copy : Vec WalkHop Global) (walk : List WalkHop) (place : ℕ)
    (items : new ≡ insert walks place copy) (same : copy.items ≡ walk) where
  inserted : hops_in new ≡ insert (hops_in walks) place walk
  inserted = ap hops_in items ∙ map_insert (λ (one : Vec WalkHop Global). one.items) walks place copy
      ∙ ap (insert (hops_in walks) place) same

  as_put : hops_in new ≡ put (hops_in walks) place walk
  as_put = inserted ∙ put_insert (hops_in walks) place walk

  pub inserted_few : length (hops_in new) ≤ length (hops_in walks) + 1
  inserted_few =
      let equal = ap (λ (ws : List (List WalkHop)). length ws) as_put in
      let long = length_put (hops_in walks) place walk in
      omega (arith, equal, long)

  pub inserted_there : Contains (hops_in new) walk
  inserted_there = subst (λ (ws : List (List WalkHop)). Contains ws walk) (sym as_put) (there_put (hops_in walks) place walk)

  pub inserted_others : (other : List WalkHop) → Contains (hops_in walks) other → Contains (hops_in new) other
  inserted_others other there = subst (λ (ws : List (List WalkHop)). Contains ws other) (sym as_put)
      (others_put (hops_in walks) place walk other there)

  pub inserted_each : (P : List WalkHop → Type 0) → All P (hops_in walks) → P walk → All P (hops_in new)
  inserted_each P all here = subst (All P) (sym inserted)
      (All-append P (take place (hops_in walks)) (walk ∷ drop place (hops_in walks)) (All-take P place (hops_in walks) all)
      (All-cons P walk (drop place (hops_in walks)) here (All-drop P place (hops_in walks) all)))

  pub inserted_order : (slice : List (Vec WalkHop Global)) → slice ≡ walks → InOrder walk_cmp (hops_in walks)
      → place ≤ length slice → IsGap walk_cmp walk (hops_in slice) place → InOrder walk_cmp (hops_in new)
  inserted_order slice is order within gap =
      let long = length_seen walks in
      let short = ap (λ (ws : List (Vec WalkHop Global)). length ws) is in
      subst (InOrder walk_cmp) (sym inserted)
      (order_inserted walk_cmp walk_total (hops_in walks) place walk order
      (placed_of walk_cmp walk_total place (hops_in walks) walk order (omega (arith, within, long, short))
      (subst (λ (ws : List (Vec WalkHop Global)). IsGap walk_cmp walk (hops_in ws) place) is gap)))

-- ---- all of them

pub pairs_in_order : (walks : List (List WalkHop)) → InOrder walk_cmp walks
    → AllPairs (λ one other. walk_cmp one other ≡ Less) walks
pairs_in_order [] order = λ i j d less within. absurd (omega arith)
pairs_in_order (walk ∷ walks) order =
    AllPairs-cons (λ one other. walk_cmp one other ≡ Less) walk walks
    (All-from_recursion (λ other. walk_cmp walk other ≡ Less) walks order.0) (pairs_in_order walks order.1)
