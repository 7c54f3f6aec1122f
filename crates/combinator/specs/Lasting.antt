-- Sets of segments that have the same answers (words of the laws).
use Rattle.std.specs.Prelude.{◌↔◌, ℕ, List, All, Contains}
use Rattle.path_segment.specs.Chain.{Chain, IsChainLive}
use Rattle.path_server.specs.Lookup.{Selection}

-- the lists have the same segments, in any order
abbrev pub HaveSame : (segments others : List Chain) → Type 0
HaveSame segments others = (segment : Chain) → Contains segments segment ↔ Contains others segment

-- the sets have the same segments
pub record IsSameSet (set other : Selection) : Type 0 where
  pub ups : HaveSame set.ups other.ups
  pub cores : HaveSame set.cores other.cores
  pub downs : HaveSame set.downs other.downs

-- each segment of the set is live at this second
pub record AreAllLive (set : Selection) (now : ℕ) : Type 0 where
  pub ups : All (λ segment. IsChainLive segment now) set.ups
  pub cores : All (λ segment. IsChainLive segment now) set.cores
  pub downs : All (λ segment. IsChainLive segment now) set.downs
