-- An index in blocks.
use Rattle.std.specs.Prelude.{◌≡◌, ◌⊎◌, ℕ, ◌+◌, ◌*◌, ◌<◌, ◌≤◌, nat_lt, not, Bool, true, if◌then◌else◌, Option, Some, None, List, ◌∷◌, ◌++◌, length, take, drop, slice_get, slice_index_or, filter, Vec, vec_len, vec_capacity}
use Rattle.std.specs.declared.alloc.Global.{Global}
use Rattle.std.specs.List.{flat_map, count_by}
use Rattle.std.specs.List.Sorted.{IsNonDecreasingBy}
use Rattle.std.specs.Option.{option_map_or}
use Rattle.path_segment.specs.Chain.{Chain}
use Rattle.path_segment.specs.Tests.{is_live}
use Rattle.path_server.specs.Index.{rank_at}
use Rattle.path_server.specs.inner.Index.{passes_at, lies_between}

-- a block of places
abbrev pub Block : Type 0
Block = Vec ℕ Global

-- the places of all blocks, one block after another
abbrev pub joined : List Block → List ℕ
joined blocks = flat_map (λ block. block.items) blocks

-- no block but maybe the first is empty, and each has at most 512 places
abbrev pub AreFilled : List Block → Type 0
AreFilled blocks = (k : ℕ) (d : Block) → k < length blocks
    → (0 < k → 0 < length (slice_index_or blocks k d).items)
    × (length (slice_index_or blocks k d).items ≤ 512)

-- the position in the whole list of an offset in a block
abbrev pub position : List Block → (block offset : ℕ) → ℕ
position blocks block offset = length (joined (take block blocks)) + offset

-- the offset lies in the block or at its end
abbrev pub LiesIn : List Block → (block offset : ℕ) → Type 0
LiesIn blocks block offset = (block < length blocks)
    × ((d : Block) → offset ≤ length (slice_index_or blocks block d).items)

-- a place to insert at: in a block, or the only one of an index without blocks
abbrev pub IsSpot : List Block → (block offset : ℕ) → Type 0
IsSpot blocks block offset = LiesIn blocks block offset
    ⊎ ((length blocks ≡ 0) × (block ≡ 0) × (offset ≡ 0))

-- the block has room for one more place
abbrev pub HasRoom : List Block → (block : ℕ) → Type 0
HasRoom blocks block = (d : Block)
    → (vec_len (slice_index_or blocks block d) < vec_capacity (slice_index_or blocks block d))
    × (length (slice_index_or blocks block d).items < 512)

-- the first of these places, if there is one, has no ends above the bound
abbrev pub begins_within : (segments : List Chain) (bound : ℕ) (places : List ℕ) → Bool
begins_within segments bound places =
    option_map_or (λ place. not (nat_lt bound (rank_at segments place))) (slice_get places 0) true

-- the first of these places, if there is one, has ends below the bound
abbrev pub begins_below : (segments : List Chain) (bound : ℕ) (places : List ℕ) → Bool
begins_below segments bound places =
    option_map_or (λ place. nat_lt (rank_at segments place) bound) (slice_get places 0) true

-- the block at `at` is cut in two: its first 256 places, and the other 256, each with room for more
pub record IsCut (old : List Block) (at : ℕ) (new : List Block) : Type 0 where
  pub lower : Block
  pub upper : Block
  pub first : (d : Block) → lower.items ≡ take 256 (slice_index_or old at d).items
  pub second : (d : Block) → upper.items ≡ drop 256 (slice_index_or old at d).items
  pub halves : (length lower.items ≡ 256) × (length upper.items ≡ 256)
  pub first_room : vec_len lower < vec_capacity lower
  pub second_room : vec_len upper < vec_capacity upper
  pub all : new ≡ take at old ++ lower ∷ upper ∷ drop (at + 1) old

-- the number of live segments before a place
abbrev pub kept_before : (now : ℕ) → List Chain → ℕ → ℕ
kept_before now segments place = count_by (is_live now) (take place segments)

-- where a place lies once the segments that are not live are left out
abbrev pub moved_to : (now : ℕ) → List Chain → ℕ → Option ℕ
moved_to now segments place =
    if passes_at (is_live now) segments place then Some (kept_before now segments place) else None

-- the counts of live segments before each eighth place
pub record AreCounts (now : ℕ) (segments : List Chain) (counts : List ℕ) : Type 0 where
  pub long : length segments ≤ 8 * length counts
  pub each : (k d : ℕ) → k < length counts
      → slice_index_or counts k d ≡ kept_before now segments (8 * k)

-- the blocks `some` have all places of `blocks` with ends up to the upper bound
pub record FrontOf (segments : List Chain) (high : ℕ) (blocks some : List Block) : Type 0 where
  pub part : (low : ℕ) → filter (lies_between segments low high) (joined some)
      ≡ filter (lies_between segments low high) (joined blocks)
  pub rises : IsNonDecreasingBy (rank_at segments) (joined some)
  pub filled : AreFilled some

-- the blocks `some` have all places of `blocks` with ends from the lower bound on
pub record RestOf (segments : List Chain) (low : ℕ) (blocks some : List Block) : Type 0 where
  pub part : (high : ℕ) → filter (lies_between segments low high) (joined some)
      ≡ filter (lies_between segments low high) (joined blocks)
  pub rises : IsNonDecreasingBy (rank_at segments) (joined some)
  pub filled : AreFilled some
