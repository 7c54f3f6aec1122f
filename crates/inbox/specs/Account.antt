-- The account of a pass, and the rule of an inbox: its balance, and the order of the first two
-- senders' values.
use Rattle.std.specs.Prelude.{◌≡◌, ℕ, ◌+◌, true, List, [], ◌∷◌, ◌++◌, map}
use Rattle.inbox.specs.declared.account.Tally.{Tally}
use Rattle.inbox.specs.declared.account.Roles.{Roles}
use Rattle.inbox.specs.declared.account.Account.{Account}
use Rattle.inbox.specs.Share.{share, IsWholeShare, half, sum_of}
use Rattle.inbox.specs.Tally.{tally, weigh, Balanced}
use Rattle.inbox.specs.Roles.{those_of, values, roles, Ordered, put_by, taken_by, keeps_of, gives_of, sends_of, takes_of, both_of, no_roles}

module _ {T : Type 0} where
  -- the account of this tally and these roles
  abbrev pub account : Tally T → Roles T → Account T
  account t r = record { tally = t; roles = r }

  -- the tally of an account
  abbrev pub tally_of : Account T → Tally T
  tally_of v = v.tally

  -- the roles of an account
  abbrev pub roles_of : Account T → Roles T
  roles_of v = v.roles

  -- the rule of an inbox that holds these values, whose passes have these accounts
  abbrev pub Keeps : List T → List (Account T) → Type 0
  Keeps items views = Balanced items (map tally_of views) × Ordered items (map roles_of views)

  -- the account of the only pass of an inbox, by which nothing was put in or taken out
  abbrev pub everything : Account T
  everything = account (tally (share 1 0) [] []) (roles true true true [] [] [])

  -- the tally of a pass that keeps half of its share
  abbrev pub with_half : Tally T → Tally T
  with_half t = tally (half t.share) t.put t.taken

  -- the tally of a new pass with the other half of the share
  abbrev pub other_half : Tally T → Tally T
  other_half t = tally (half t.share) [] []

  -- the tally of two passes together
  abbrev pub tallies_of : Tally T → Tally T → Tally T
  tallies_of t u = tally (sum_of t.share u.share) (t.put ++ u.put) (t.taken ++ u.taken)

  -- the first sender's account after the receiver's pass was split off
  abbrev pub first_sender : Account T → Account T
  first_sender v = account (with_half v.tally) (sends_of v.roles)

  -- the receiver's account after it was split off
  abbrev pub receiver : Account T → Account T
  receiver v = account (other_half v.tally) (takes_of v.roles)

  -- the account that stays with a sender's pass when it is split
  abbrev pub kept : Account T → Account T
  kept v = account (with_half v.tally) (keeps_of v.roles)

  -- the account of the pass that is split off
  abbrev pub given : Account T → Account T
  given v = account (other_half v.tally) (gives_of v.roles)

  -- the account after a value was put in
  abbrev pub with_put : Account T → T → Account T
  with_put v x =
      account (tally v.tally.share (v.tally.put ++ x ∷ []) v.tally.taken) (put_by v.roles x)

  -- the account after a value was taken out
  abbrev pub with_taken : Account T → T → Account T
  with_taken v x =
      account (tally v.tally.share v.tally.put (v.tally.taken ++ x ∷ [])) (taken_by v.roles x)

  -- the account of a pass that has taken over another pass
  abbrev pub joined : Account T → Account T → Account T
  joined v w = account (tallies_of v.tally w.tally) (both_of v.roles w.roles)

  -- the account that remains of a pass that was taken over
  abbrev pub spent : Account T
  spent = account (tally (share 0 0) [] []) no_roles

  -- what a pass guarantees about the values in its inbox. With the whole share: each value was put
  -- in as often as it was taken out or is still there. With every role: the values that came out
  -- and then those still there have the values of each of the first two senders in that sender's
  -- order.
  pub record AddsUp (v : Account T) (items : List T) : Type 0 where
    pub as_often : IsWholeShare v.tally.share → (h : T → ℕ)
        → weigh h v.tally.put ≡ weigh h v.tally.taken + weigh h items
    pub in_order : v.roles.one ≡ true → v.roles.two ≡ true → v.roles.takes ≡ true
        → (tagged : List (ℕ × T)) × (values tagged ≡ v.roles.taken ++ items)
        × (those_of 0 tagged ≡ v.roles.first) × (those_of 1 tagged ≡ v.roles.second)
