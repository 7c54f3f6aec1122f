-- Each kind of step keeps an inbox in balance.
use Rattle.std.proofs.Common.{◌≡◌, ◌≢◌, ℕ, zero, suc, ◌+◌, ◌<◌, List, [], ◌∷◌, ◌++◌, set, ◌≤◌, refl, sym, ap, subst, ⊎_elim, arith}
use mathlib.Core.Option.{some, some-injective, some-ne-none}
use lib.ListN.{get_elem?}
use Rattle.std.proofs.Math.Nat.{max-le, pow-suc}
use Rattle.crossbeam_queue.specs.Fifo.{Pushes, Pops, Forks, Merges, Learns}
use Rattle.crossbeam_queue.proofs.Lists.{at_set, at_snoc}
use Rattle.inbox.specs.declared.account.Tally.{Tally}
use Rattle.inbox.specs.Share.{share, IsWholeShare, half, worth, sum_of}
use Rattle.inbox.specs.Tally.{tally, weigh, total, AreWithin, IdleIsEmpty, Balanced}
use Rattle.inbox.proofs.Shares.{doubled, halved, sums, wholes, no_piece, sum_some}

module _ {T : Type 0} where
  pub weigh-append : (h : T → ℕ) (xs ys : List T) → weigh h (xs ++ ys) ≡ weigh h xs + weigh h ys
  weigh-append h [] ys = omega arith
  weigh-append h (x ∷ xs) ys = omega (arith, weigh-append h xs ys)

  pub total-append : (f : Tally T → ℕ) (vs ws : List (Tally T)) → total f (vs ++ ws) ≡ total f vs + total f ws
  total-append f [] ws = omega arith
  total-append f (v ∷ vs) ws = omega (arith, total-append f vs ws)

  -- the total after a change of one pass
  pub total_set : (f : Tally T → ℕ) (views : List (Tally T)) (port : ℕ) (v w : Tally T) → get_elem? views port ≡ some v → total f (set views port w) + f v ≡ total f views + f w
  total_set f [] port v w at = absurd (some-ne-none v (sym at))
  total_set f (u ∷ us) zero v w at = let same : f u ≡ f v = ap f (some-injective u v at) in omega arith
  total_set f (u ∷ us) (suc port) v w at = omega (arith, total_set f us port v w at)

  -- a pass adds no more than the total
  total_at : (f : Tally T → ℕ) (views : List (Tally T)) (port : ℕ) (v : Tally T) → get_elem? views port ≡ some v → f v ≤ total f views
  total_at f [] port v at = absurd (some-ne-none v (sym at))
  total_at f (u ∷ us) zero v at = let same : f u ≡ f v = ap f (some-injective u v at) in omega arith
  total_at f (u ∷ us) (suc port) v at = omega (arith, total_at f us port v at)

  all_zero : (f : Tally T → ℕ) (vs : List (Tally T)) → ((j : ℕ) (u : Tally T) → get_elem? vs j ≡ some u → f u ≡ 0) → total f vs ≡ 0
  all_zero f [] z = refl
  all_zero f (u ∷ us) z = omega (arith, z 0 u refl, all_zero f us (λ j. z (suc j)))

  -- what holds of each pass holds after a change of one
  each_set : (P : Tally T → Type 0) (views : List (Tally T)) (port : ℕ) (w : Tally T) → P w → ((j : ℕ) (u : Tally T) → get_elem? views j ≡ some u → P u)
      → (j : ℕ) (u : Tally T) → get_elem? (set views port w) j ≡ some u → P u
  each_set P views port w mine others j u e =
      ⊎_elim (λ (t : (j ≡ port) × (w ≡ u)). subst P t.1 mine)
      (λ (t : (j ≢ port) × (get_elem? views j ≡ some u)). others j u t.1)
      (at_set views port j w u e)

  each_snoc : (P : Tally T → Type 0) (views : List (Tally T)) (w : Tally T) → P w → ((j : ℕ) (u : Tally T) → get_elem? views j ≡ some u → P u)
      → (j : ℕ) (u : Tally T) → get_elem? (views ++ w ∷ []) j ≡ some u → P u
  each_snoc P views w mine others j u e =
      ⊎_elim (λ (t : get_elem? views j ≡ some u). others j u t)
      (λ (t : w ≡ u). subst P t mine)
      (at_snoc views w u j e)

  abbrev Idle : Tally T → Type 0
  Idle u = u.share.pieces ≡ 0 → (u.put ≡ []) × (u.taken ≡ [])

  abbrev Within : ℕ → Tally T → Type 0
  Within n u = u.share.halvings ≤ n

  abbrev worths : ℕ → Tally T → ℕ
  worths n u = worth n u.share

  none_there : (P : Tally T → Type 0) (j : ℕ) (u : Tally T) → get_elem? [] j ≡ some u → P u
  none_there P j u e = absurd (some-ne-none u (sym e))

  -- all shares in pieces that are half as large
  all_doubled : (n : ℕ) (vs : List (Tally T)) → AreWithin n vs → total (worths (suc n)) vs ≡ total (worths n) vs + total (worths n) vs
  all_doubled n [] within = omega arith
  all_doubled n (v ∷ vs) within = omega (arith, doubled n v.share (within 0 v refl), all_doubled n vs (λ j. within (suc j)))

  pub begins : Balanced {T = T} [] (tally (share 1 0) [] [] ∷ [])
  begins = (
    (0, each_snoc (Within 0) [] (tally (share 1 0) [] []) (omega arith) (none_there (Within 0)), refl),
    (λ h. omega arith),
    each_snoc Idle [] (tally (share 1 0) [] []) (λ none. absurd (omega arith)) (none_there Idle),
  )

  pub puts : (n port : ℕ) (v : Tally T) (x : T) → 0 < v.share.pieces → Pushes Balanced n port v x (λ w. w ≡ tally v.share (v.put ++ x ∷ []) v.taken)
  puts n port v x some_piece items views room b at =
      let k = b.0.0 in
      let w : Tally T = tally v.share (v.put ++ x ∷ []) v.taken in (
        w,
        (
          (k, each_set (Within k) views port w (b.0.1 port v at) b.0.1, (let s = total_set (worths k) views port v w at in let p = b.0.2 in omega arith)),
          (λ h.
              let s = total_set (λ u. weigh h u.put) views port v w at in
              let t = total_set (λ u. weigh h u.taken) views port v w at in
              let p = b.1 h in
              omega (arith, weigh-append h v.put (x ∷ []), weigh-append h items (x ∷ []))),
          each_set Idle views port w (λ none. absurd (omega arith)) b.2,
        ),
        refl,
      )

  pub takes : (port : ℕ) (v : Tally T) → 0 < v.share.pieces → Pops Balanced port v (λ x w. w ≡ tally v.share v.put (v.taken ++ x ∷ []))
  takes port v some_piece x items views b at =
      let k = b.0.0 in
      let w : Tally T = tally v.share v.put (v.taken ++ x ∷ []) in (
        w,
        (
          (k, each_set (Within k) views port w (b.0.1 port v at) b.0.1, (let s = total_set (worths k) views port v w at in let p = b.0.2 in omega arith)),
          (λ h.
              let s = total_set (λ u. weigh h u.put) views port v w at in
              let t = total_set (λ u. weigh h u.taken) views port v w at in
              let p = b.1 h in
              omega (arith, weigh-append h v.taken (x ∷ []))),
          each_set Idle views port w (λ none. absurd (omega arith)) b.2,
        ),
        refl,
      )

  pub forks : (port : ℕ) (v : Tally T) → 0 < v.share.pieces → Forks Balanced port v (tally (half v.share) v.put v.taken) (tally (half v.share) [] [])
  forks port v some_piece items views b at =
      let k = b.0.0 in
      let l : Tally T = tally (half v.share) v.put v.taken in
      let r : Tally T = tally (half v.share) [] [] in
      let vs : List (Tally T) = set views port l in
      let low : v.share.halvings ≤ k = b.0.1 port v at in
      let lower : (j : ℕ) (u : Tally T) → get_elem? views j ≡ some u → Within (suc k) u = λ j u e. (let p = b.0.1 j u e in omega arith) in (
        (
          suc k,
          each_snoc (Within (suc k)) vs r (omega arith) (each_set (Within (suc k)) views port l (omega arith) lower),
          (let s = total_set (worths (suc k)) views port v l at in
              let p = b.0.2 in
              omega (arith, total-append (worths (suc k)) vs (r ∷ []), all_doubled k views b.0.1, doubled k v.share low, halved k v.share, pow-suc 2 k)),
        ),
        (λ h.
            let s = total_set (λ u. weigh h u.put) views port v l at in
            let t = total_set (λ u. weigh h u.taken) views port v l at in
            let p = b.1 h in
            omega (arith, total-append (λ u. weigh h u.put) vs (r ∷ []), total-append (λ u. weigh h u.taken) vs (r ∷ []))),
        each_snoc Idle vs r (λ none. absurd (omega arith)) (each_set Idle views port l (λ none. absurd (omega arith)) b.2),
      )

  pub merges : (port : ℕ) (v : Tally T) (other : ℕ) (w : Tally T) → 0 < v.share.pieces
      → Merges Balanced port v other w (tally (sum_of v.share w.share) (v.put ++ w.put) (v.taken ++ w.taken)) (tally (share 0 0) [] [])
  merges port v other w some_piece items views b at apart there =
      let k = b.0.0 in
      let m : Tally T = tally (sum_of v.share w.share) (v.put ++ w.put) (v.taken ++ w.taken) in
      let z : Tally T = tally (share 0 0) [] [] in
      let vs : List (Tally T) = set views port m in
      let was : get_elem? views other ≡ some w =
      ⊎_elim (λ (t : (other ≡ port) × (m ≡ w)). absurd (apart t.0)) (λ (t : (other ≢ port) × (get_elem? views other ≡ some w)). t.1) (at_set views port other m w there) in
      let high : m.share.halvings ≤ k = max-le (b.0.1 port v at) (b.0.1 other w was) in (
        (
          k,
          each_set (Within k) vs other z (omega arith) (each_set (Within k) views port m high b.0.1),
          (let s = total_set (worths k) views port v m at in
              let t = total_set (worths k) vs other w z there in
              let p = b.0.2 in
              omega (arith, sums k v.share w.share (b.0.1 port v at) (b.0.1 other w was) high)),
        ),
        (λ h.
            let s = total_set (λ u. weigh h u.put) views port v m at in
            let s' = total_set (λ u. weigh h u.put) vs other w z there in
            let t = total_set (λ u. weigh h u.taken) views port v m at in
            let t' = total_set (λ u. weigh h u.taken) vs other w z there in
            let p = b.1 h in
            omega (arith, weigh-append h v.put w.put, weigh-append h v.taken w.taken)),
        each_set Idle vs other z (λ none. (refl, refl)) (each_set Idle views port m (λ none. absurd (let p = sum_some v.share w.share some_piece in omega arith)) b.2),
      )

  -- the pass whose share is the whole knows the whole
  pub learns : (port : ℕ) (v : Tally T) → Learns Balanced port v (λ items. IsWholeShare v.share → (h : T → ℕ) → weigh h v.put ≡ weigh h v.taken + weigh h items)
  learns port v items views b at whole h =
      let k = b.0.0 in
      let z : Tally T = tally (share 0 0) [] [] in
      let vs : List (Tally T) = set views port z in
      let shares = total_set (worths k) views port v z at in
      let idle : IdleIsEmpty vs = each_set Idle views port z (λ none. (refl, refl)) b.2 in
      let none : total (worths k) vs ≡ 0 = (let p = b.0.2 in let q = wholes k v.share whole (b.0.1 port v at) in omega arith) in
      let empty : (j : ℕ) (u : Tally T) → get_elem? vs j ≡ some u → (u.put ≡ []) × (u.taken ≡ []) =
      λ j u e. idle j u e (no_piece k u.share (let le = total_at (worths k) vs j u e in omega arith)) in
      let put : total (λ u. weigh h u.put) vs ≡ 0 = all_zero (λ u. weigh h u.put) vs (λ j u e. ap (weigh h) (empty j u e).0) in
      let taken : total (λ u. weigh h u.taken) vs ≡ 0 = all_zero (λ u. weigh h u.taken) vs (λ j u e. ap (weigh h) (empty j u e).1) in
      let s = total_set (λ u. weigh h u.put) views port v z at in
      let t = total_set (λ u. weigh h u.taken) views port v z at in
      let p = b.1 h in
      omega arith
