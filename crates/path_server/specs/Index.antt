-- The index of a path store: the places of its segments in its list, ordered by the segments' ends.
use Rattle.std.specs.Prelude.{◌≡◌, ℕ, ◌+◌, ◌*◌, ◌^◌, ◌<◌, Bool, List, All, length, slice_get, count_by}
use Rattle.std.specs.List.{range_with_len}
use Rattle.std.specs.List.Sorted.{IsNonDecreasingBy}
use Rattle.std.specs.Option.{option_map_or}
use Rattle.path_segment.specs.declared.kind.SegKind.{SegKind}
use Rattle.path_segment.specs.declared.kind.SegKind.TheVariants.{Core, Intra}
use Rattle.path_segment.specs.Chain.{Chain, first_as, last_as}

-- core segments are ordered before intra segments
abbrev pub kind_number : SegKind → ℕ
kind_number Core = 0
kind_number Intra = 1

-- the number of the ends of a segment of this kind from its first to its last AS
unfoldable pub rank_between : (kind : SegKind) (first last : ℕ) → ℕ
rank_between kind first last = kind_number kind * 2 ^ 128 + (last * 2 ^ 64 + first)

-- the number of a segment's ends
abbrev pub rank : Chain → ℕ
rank segment = rank_between segment.kind (first_as segment) (last_as segment)

-- the number of the ends of the segment at a place, or 0 if there is no such segment
abbrev pub rank_at : List Chain → ℕ → ℕ
rank_at segments place = option_map_or rank (slice_get segments place) 0

-- the order of places: by the ends of their segments, and then by registration
abbrev pub order_at : List Chain → ℕ → ℕ
order_at segments place = rank_at segments place * 2 ^ 64 + place

-- the list has each place of the segments exactly once: every test is passed equally often by both
abbrev pub HasEachPlace : List Chain → List ℕ → Type 0
HasEachPlace segments index =
    (test : ℕ → Bool) → count_by test index ≡ count_by test (range_with_len 0 (length segments))

-- the addresses of the segment's ends have 64 bits
abbrev pub HasAddresses : Chain → Type 0
HasAddresses segment = (first_as segment < 2 ^ 64) × (last_as segment < 2 ^ 64)

-- the list is the index of these segments: it has each place once, ordered by ends and then by
-- registration
pub record IsIndex (segments : List Chain) (index : List ℕ) : Type 0 where
  pub each : HasEachPlace segments index
  pub ordered : IsNonDecreasingBy (order_at segments) index
  pub addresses : All HasAddresses segments
