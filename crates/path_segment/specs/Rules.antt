-- The rules for the entries of a segment and of a beacon under way
-- (draft-dekater-scion-controlplane, path segments).
use Rattle.std.specs.Prelude.{◌≡◌, ◌≢◌, ◌↔◌, ℕ, ◌+◌, ◌≤◌, ◌==◌, ◌&&◌, ◌||◌, not, nat_lt, nat_le, Bool, true, false, if◌then◌else◌, List, [], ◌∷◌, length, Option, Some, None, slice_get, Result}
use Rattle.std.specs.List.{list_any, list_all}
use Rattle.refusal.specs.Refusal.{unless}
use Rattle.path_segment.specs.declared.entry.Entry.{Entry}
use Rattle.path_segment.specs.declared.fault.SegmentFault.{SegmentFault}
use Rattle.path_segment.specs.declared.fault.SegmentFault.TheVariants as faults
use Rattle.path_segment.specs.Chain.{Chain}

-- the entry has an interface towards the entry before it
abbrev pub has_way_in : Entry → Bool
has_way_in entry = not (entry.cons_ingress == 0)

-- the entry has an interface towards the entry after it
abbrev pub has_way_out : Entry → Bool
has_way_out entry = not (entry.cons_egress == 0)

-- the first entry has no way in, and each later one has a way in
abbrev pub begins_well : List Entry → Bool
begins_well [] = true
begins_well (first ∷ later) = not (has_way_in first) && list_all has_way_in later

-- the last entry has no way out, and each earlier one has a way out
abbrev pub ends_well : List Entry → Bool
ends_well [] = true
ends_well (last ∷ []) = not (has_way_out last)
ends_well (entry ∷ next ∷ later) = has_way_out entry && ends_well (next ∷ later)

-- two entries are of one AS
abbrev pub names_as_twice : List Entry → Bool
names_as_twice [] = false
names_as_twice (entry ∷ later) = list_any (λ other. other.ia == entry.ia) later
    || names_as_twice later

-- the first rule that a beacon under way breaks: it has 1 to 62 entries, each has a way out, and
-- all but the first have a way in; no AS has two entries
unfoldable pub beacon_fault : List Entry → Option SegmentFault
beacon_fault entries =
    if nat_lt (length entries) 1 then Some faults.TooShort
    else if nat_lt 62 (length entries) then Some faults.TooLong
    else if not (begins_well entries && list_all has_way_out entries) then Some faults.BadEnds
    else if names_as_twice entries then Some faults.Loop
    else None

-- the first rule that a segment breaks: it has 2 to 63 entries, ways in for all but the first and
-- ways out for all but the last, and no AS has two entries
unfoldable pub segment_fault : List Entry → Option SegmentFault
segment_fault entries =
    if nat_lt (length entries) 2 then Some faults.TooShort
    else if nat_lt 63 (length entries) then Some faults.TooLong
    else if not (begins_well entries && ends_well entries) then Some faults.BadEnds
    else if names_as_twice entries then Some faults.Loop
    else None

-- the first rule that a beacon of this one entry breaks
unfoldable pub first_fault : Entry → Option SegmentFault
first_fault entry =
    if has_way_in entry || not (has_way_out entry) then Some faults.BadEnds else None

-- the first rule that a beacon breaks if this entry is added
unfoldable pub next_fault : List Entry → Entry → Option SegmentFault
next_fault entries entry =
    if nat_le 62 (length entries) then Some faults.TooLong
    else if not (has_way_in entry && has_way_out entry) then Some faults.BadEnds
    else if list_any (λ other. other.ia == entry.ia) entries then Some faults.Loop
    else None

-- the first rule that the segment breaks that consists of a beacon's entries and this last one
unfoldable pub last_fault : List Entry → Entry → Option SegmentFault
last_fault entries entry =
    if not (has_way_in entry) || has_way_out entry then Some faults.BadEnds
    else if list_any (λ other. other.ia == entry.ia) entries then Some faults.Loop
    else None

-- the rules that beacons and segments share, without tests: the way in is 0 for the first entry and
-- no other, and no AS has two entries
pub record KeepsRules (entries : List Entry) : Type 0 where
  pub ways_in : (k : ℕ) (entry : Entry) → slice_get entries k ≡ Some entry
      → (entry.cons_ingress ≡ 0) ↔ (k ≡ 0)
  pub once : (j k : ℕ) (one other : Entry) → slice_get entries j ≡ Some one
      → slice_get entries k ≡ Some other → one.ia ≡ other.ia → j ≡ k

-- besides `KeepsRules`: a beacon has 1 to 62 entries, each with a way out
pub record AreOfBeacon (entries : List Entry) : Type 0 where
  pub rules : KeepsRules entries
  pub longer : 1 ≤ length entries
  pub shorter : length entries ≤ 62
  pub ways_out : (k : ℕ) (entry : Entry) → slice_get entries k ≡ Some entry → entry.cons_egress ≢ 0

-- besides `KeepsRules`: a segment has 2 to 63 entries, and the way out is 0 for the last and no
-- other
pub record AreOfSegment (entries : List Entry) : Type 0 where
  pub rules : KeepsRules entries
  pub longer : 2 ≤ length entries
  pub shorter : length entries ≤ 63
  pub ways_out : (k : ℕ) (entry : Entry) → slice_get entries k ≡ Some entry
      → (entry.cons_egress ≡ 0) ↔ (k + 1 ≡ length entries)

-- the chain keeps the rules of a beacon under way, as every `Beacon` does
abbrev pub IsBeacon : Chain → Type 0
IsBeacon chain = beacon_fault chain.entries ≡ None

-- the chain keeps the rules of a segment, as every `Segment` does
abbrev pub IsSegment : Chain → Type 0
IsSegment chain = segment_fault chain.entries ≡ None

-- the beacon, or the first rule that it breaks
abbrev pub beacon_of : Chain → Result Chain SegmentFault
beacon_of chain = unless (beacon_fault chain.entries) chain

-- the segment, or the first rule that it breaks
abbrev pub segment_of : Chain → Result Chain SegmentFault
segment_of chain = unless (segment_fault chain.entries) chain
