-- The balance of an inbox: for any weights, the values put in weigh as much as those taken out
-- together with those still in the inbox.
use Rattle.std.specs.Prelude.{◌≡◌, ℕ, ◌+◌, ◌^◌, ◌≤◌, List, [], ◌∷◌}
use mathlib.Core.Option.{some}
use lib.ListN.{get_elem?}
use Rattle.inbox.specs.declared.account.Share.{Share}
use Rattle.inbox.specs.declared.account.Tally.{Tally}
use Rattle.inbox.specs.Share.{worth}

module _ {T : Type 0} where
  -- this share, and the values that were put in and taken out
  abbrev pub tally : Share → List T → List T → Tally T
  tally share put taken = record { share = share; put = put; taken = taken }

  -- the sum of the weights of these values
  abbrev pub weigh : (T → ℕ) → List T → ℕ
  weigh h [] = 0
  weigh h (x ∷ xs) = h x + weigh h xs

  -- a sum over all passes
  abbrev pub total : (Tally T → ℕ) → List (Tally T) → ℕ
  total f [] = 0
  total f (v ∷ vs) = f v + total f vs

  -- no share is a fraction of a whole that was halved more than `n` times
  abbrev pub AreWithin : ℕ → List (Tally T) → Type 0
  AreWithin n views =
      (port : ℕ) (v : Tally T) → get_elem? views port ≡ some v → v.share.halvings ≤ n

  -- a pass without a share has put in and taken out nothing
  abbrev pub IdleIsEmpty : List (Tally T) → Type 0
  IdleIsEmpty views =
      (port : ℕ) (v : Tally T) → get_elem? views port ≡ some v → v.share.pieces ≡ 0
      → (v.put ≡ []) × (v.taken ≡ [])

  -- the rule of the tallies for an inbox with these values: all shares together are the whole, and
  -- the values put in weigh as much as those taken out and those still in the inbox
  abbrev pub Balanced : List T → List (Tally T) → Type 0
  Balanced items views =
      ((n : ℕ) × AreWithin n views × (total (λ v. worth n v.share) views ≡ 2 ^ n))
      × ((h : T → ℕ)
      → total (λ v. weigh h v.put) views ≡ total (λ v. weigh h v.taken) views + weigh h items)
      × IdleIsEmpty views
