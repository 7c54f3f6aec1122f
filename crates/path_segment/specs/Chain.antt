-- The values of beacons and segments, the chain of their authenticators, and their expiry
-- (draft-dekater-scion-dataplane).
use Rattle.std.specs.Prelude.{◌≡◌, ℕ, ◌+◌, ◌-◌, ◌≤◌, List, ◌∷◌, [], ◌++◌, All, Any, take, drop, length, slice_get}
use Rattle.std.specs.List.{fold}
use Rattle.std.specs.Option.{option_map_or}
use Rattle.hop_mac.specs.Hop.{beta_after}
use Rattle.hop_mac.specs.Lifetime.{expiry_of, IsLive}
use Rattle.path_segment.specs.declared.entry.Entry.{Entry}
use Rattle.path_segment.specs.declared.kind.SegKind.{SegKind}

-- a beacon or a segment: its kind, its timestamp in seconds, its first accumulator, and its entries
-- in construction order
pub record Chain : Type 0 where
  pub kind : SegKind
  pub timestamp : ℕ
  pub beta0 : ℕ
  pub entries : List Entry

-- the chain of these parts, in that order
abbrev pub chain_of : (kind : SegKind) (timestamp beta0 : ℕ) (entries : List Entry) → Chain
chain_of kind timestamp beta0 entries =
    record { kind = kind; timestamp = timestamp; beta0 = beta0; entries = entries }

-- the chain with one more entry at the end
abbrev pub with_last : Chain → Entry → Chain
with_last chain entry = record chain { entries = chain.entries ++ entry ∷ [] }

-- the accumulator after these entries, if it is `beta` before them
abbrev pub beta_over : ℕ → List Entry → ℕ
beta_over beta entries = fold (λ b entry. beta_after b entry.mac) beta entries

-- the accumulator under which entry `i` is authenticated: the first `i` authenticators are folded
-- into it
abbrev pub beta_of : Chain → ℕ → ℕ
beta_of chain i = beta_over chain.beta0 (take i chain.entries)

-- the entries from place a to place b, both included
abbrev pub between : (a b : ℕ) (entries : List Entry) → List Entry
between a b entries = drop a (take (b + 1) entries)

-- `least` is the earliest expiry of these entries, in half seconds: one entry expires then, and
-- none before
pub record IsLeastExpiry (timestamp : ℕ) (entries : List Entry) (least : ℕ) : Type 0 where
  pub reached : Any (λ entry. least ≡ expiry_of timestamp entry.exp_time) entries
  pub lower : All (λ entry. least ≤ expiry_of timestamp entry.exp_time) entries

-- every hop is live at this second
abbrev pub IsChainLive : Chain → ℕ → Type 0
IsChainLive chain now = All (λ entry. IsLive chain.timestamp entry.exp_time now) chain.entries

-- the AS of the entry at a place, or 0 if there is no such entry
abbrev pub as_at : List Entry → ℕ → ℕ
as_at entries i = option_map_or (λ entry. entry.ia) (slice_get entries i) 0

-- the AS in which a segment begins: that of its first entry
unfoldable pub first_as : Chain → ℕ
first_as segment = as_at segment.entries 0

-- the AS in which a segment ends: that of its last entry
unfoldable pub last_as : Chain → ℕ
last_as segment = as_at segment.entries (length segment.entries - 1)
