-- The index of a path store: the places of its segments in its list, ordered by the segments' ends.
use Rattle.std.specs.Prelude.{ℕ, ◌+◌, ◌*◌, ◌^◌, ◌&&◌, Bool, false, nat_le, nat_eq, List, filter, slice_get, filter_map}
use Rattle.std.specs.List.{list_any}
use Rattle.std.specs.Option.{option_map_or}
use Rattle.path_segment.specs.declared.kind.SegKind.TheVariants.{Core}
use Rattle.path_segment.specs.Chain.{Chain}
use Rattle.path_segment.specs.Tests.{is_live}
use Rattle.path_server.specs.declared.ends.Ends.{Ends}
use Rattle.path_server.specs.Index.{kind_number, rank_between, rank_at}

-- ends as a number, by which they are ordered: the kind, then the last AS, then the first AS
abbrev pub ends_number : Ends → ℕ
ends_number ends = kind_number ends.kind * 2 ^ 128 + ends.ases

-- the ends of the segment at a place have a number from `low` to `high`, both included
abbrev pub lies_between : (segments : List Chain) (low high place : ℕ) → Bool
lies_between segments low high place =
    nat_le low (rank_at segments place) && nat_le (rank_at segments place) high

-- the segments at these places
abbrev pub segments_at : List Chain → List ℕ → List Chain
segments_at segments places = filter_map (slice_get segments) places

-- whether a segment is at this place and passes the test
abbrev pub passes_at : (Chain → Bool) → List Chain → ℕ → Bool
passes_at test segments place = option_map_or test (slice_get segments place) false

-- the places in an index of the live segments whose ends have numbers from `low` to `high`
abbrev pub live_places : (segments : List Chain) (index : List ℕ) (now low high : ℕ) → List ℕ
live_places segments index now low high =
    filter (passes_at (is_live now) segments) (filter (lies_between segments low high) index)

-- the places in an index of the live core segments that end in one AS and begin in another
abbrev pub core_places : (segments : List Chain) (index : List ℕ) (now last first : ℕ) → List ℕ
core_places segments index now last first =
    let ends = rank_between Core first last in live_places segments index now ends ends

-- whether a number is in a list
abbrev pub is_in : List ℕ → ℕ → Bool
is_in numbers number = list_any (nat_eq number) numbers
