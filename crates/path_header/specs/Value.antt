-- The values of path headers: draft-dekater-scion-dataplane, the SCION path type.
use Rattle.std.specs.Prelude.{◌≡◌, ℕ, zero, suc, ◌+◌, ◌*◌, ◌<◌, ◌≤◌, List, length, slice_index, min, nat_lt, if◌then◌else◌}
use Rattle.path_header.specs.declared.lens.SegLens.{SegLens}
use Rattle.path_header.specs.declared.fields.InfoField.{InfoField}
use Rattle.path_header.specs.declared.fields.HopField.{HopField}

-- the number of segments, and so of info fields: the number of lengths that are not zero
abbrev pub info_count : SegLens → ℕ
info_count l = min 1 l.first + min 1 l.second + min 1 l.third

-- the number of hop fields: the sum of the lengths
abbrev pub hop_count : SegLens → ℕ
hop_count l = l.first + l.second + l.third

-- the lengths are those of one to three segments: each fits into six bits, no empty one comes
-- before another, and the hop fields are at most 64
pub record AreLens (l : SegLens) : Type 0 where
  pub some : 0 < l.first
  pub no_gap : l.second ≡ 0 → l.third ≡ 0
  pub first_fits : l.first < 64
  pub second_fits : l.second < 64
  pub third_fits : l.third < 64
  pub few : hop_count l ≤ 64

-- the length in bytes of a header with these lengths: the meta field, each info field and each hop
-- field
abbrev pub len_for : SegLens → ℕ
len_for l = 4 + 8 * info_count l + 12 * hop_count l

-- up to three lengths from a list, and zero for each that is missing
abbrev pub lens_from : List ℕ → SegLens
lens_from n = record { first = slice_index n 0; second = slice_index n 1; third = slice_index n 2 }

-- a path header: the indices of the current info and hop field, the lengths, and all fields in
-- order
pub record HeaderValue : Type 0 where
  pub curr_inf : ℕ
  pub curr_hf : ℕ
  pub lens : SegLens
  pub infos : List InfoField
  pub hops : List HopField

-- the numbers of fields are those that the lengths give, and both indices point to a field
pub record IsHeader (v : HeaderValue) : Type 0 where
  pub lens : AreLens v.lens
  pub infos : length v.infos ≡ info_count v.lens
  pub hops : length v.hops ≡ hop_count v.lens
  pub curr_inf : v.curr_inf < length v.infos
  pub curr_hf : v.curr_hf < length v.hops

-- the length of a header in bytes
abbrev pub header_len : HeaderValue → ℕ
header_len v = len_for v.lens

-- the number of hop fields in the segments before this one
abbrev pub hops_before : SegLens → ℕ → ℕ
hops_before l zero = 0
hops_before l (suc zero) = l.first
hops_before l (suc (suc zero)) = l.first + l.second
hops_before l (suc (suc (suc n))) = hop_count l

-- the hop field belongs to this segment
pub record IsInSegment (l : SegLens) (hop segment : ℕ) : Type 0 where
  pub starts : hops_before l segment ≤ hop
  pub ends : hop < hops_before l (suc segment)

-- the segment to which a hop field belongs
abbrev pub segment_at : SegLens → ℕ → ℕ
segment_at l at = if nat_lt at l.first then 0 else if nat_lt at (l.first + l.second) then 1 else 2
