-- Building a path header from its fields, or the first refusal: the rules for segment lengths of
-- draft-dekater-scion-dataplane, the SCION path type.
use Rattle.std.specs.Prelude.{List, length, Bool, ◌==◌, ◌&&◌, ◌||◌, nat_lt, if◌then◌else◌, Result, Ok, Err}
use Rattle.refusal.specs.Refusal.{◌>>=◌}
use Rattle.path_header.specs.declared.fault.HeaderFault.{HeaderFault}
use Rattle.path_header.specs.declared.fault.HeaderFault.TheVariants as faults
use Rattle.path_header.specs.declared.lens.SegLens.{SegLens}
use Rattle.path_header.specs.declared.fields.InfoField.{InfoField}
use Rattle.path_header.specs.declared.fields.HopField.{HopField}
use Rattle.path_header.specs.Value.{HeaderValue, info_count, hop_count}

-- the first segment is empty, or a segment follows an empty one
abbrev pub has_gap : SegLens → Bool
has_gap l = (l.first == 0) || ((l.second == 0) && nat_lt 0 l.third)

-- a length does not fit into six bits
abbrev pub is_wide : SegLens → Bool
is_wide l = nat_lt 63 l.first || (nat_lt 63 l.second || nat_lt 63 l.third)

-- the lengths if they are those of a path, and the first refusal otherwise
abbrev pub checked_lens : SegLens → Result SegLens HeaderFault
checked_lens l = if has_gap l || is_wide l then Err faults.SegLens
    else if nat_lt 64 (hop_count l) then Err faults.TooManyHops else Ok l

-- the header of these lengths and fields, with the packet at the first info and hop field
abbrev pub first_header : SegLens → List InfoField → List HopField → HeaderValue
first_header l infos hops =
    record { curr_inf = 0; curr_hf = 0; lens = l; infos = infos; hops = hops }

-- the header of these lengths and fields: the lengths are checked first, and then the numbers of
-- fields
abbrev pub new_header : SegLens → List InfoField → List HopField → Result HeaderValue HeaderFault
new_header l infos hops = do
  lens ← checked_lens l
  if (length infos == info_count lens) && (length hops == hop_count lens)
      then Ok (first_header lens infos hops)
      else Err faults.Short
