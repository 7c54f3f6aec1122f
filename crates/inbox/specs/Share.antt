-- Shares of the knowledge about an inbox: fractions whose denominator is a power of two.
use Rattle.std.specs.Prelude.{◌≡◌, ℕ, suc, ◌+◌, ◌*◌, ◌-◌, ◌^◌, max}
use Rattle.inbox.specs.declared.account.Share.{Share}

-- `pieces` pieces of a whole that was halved `halvings` times
abbrev pub share : (pieces halvings : ℕ) → Share
share pieces halvings = record { pieces = pieces; halvings = halvings }

-- the share is the whole
abbrev pub IsWholeShare : Share → Type 0
IsWholeShare s = s.pieces ≡ 2 ^ s.halvings

-- half of a share
abbrev pub half : Share → Share
half s = share s.pieces (suc s.halvings)

-- the share in pieces of a whole that was halved `n` times, at least as often as the share's
abbrev pub worth : ℕ → Share → ℕ
worth n s = s.pieces * 2 ^ (n - s.halvings)

-- the sum of two shares
abbrev pub sum_of : (s t : Share) → Share
sum_of s t = let n = max s.halvings t.halvings in share (worth n s + worth n t) n
