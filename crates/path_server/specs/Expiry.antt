-- When the segments of a path store expire.
use Rattle.std.specs.Prelude.{ℕ, ◌^◌, ◌<◌, ◌≤◌, List, All}
use Rattle.hop_mac.specs.Lifetime.{expiry_of}
use Rattle.path_segment.specs.Chain.{Chain}

-- no hop of the segment expires before this half second
abbrev pub LastsUntil : (half_second : ℕ) → Chain → Type 0
LastsUntil half_second segment =
    All (λ entry. half_second ≤ expiry_of segment.timestamp entry.exp_time) segment.entries

-- the half second is the earliest expiry of these segments: no hop expires before it, and it is the
-- last half second of which that holds; without segments it is the largest number of 64 bits
pub record IsEarliestExpiry (segments : List Chain) (half_second : ℕ) : Type 0 where
  pub lasting : All (LastsUntil half_second) segments
  pub reached : (later : ℕ) → later < 2 ^ 64 → All (LastsUntil later) segments
      → later ≤ half_second
