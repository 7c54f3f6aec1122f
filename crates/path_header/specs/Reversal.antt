-- The reversed path of a reply: draft-dekater-scion-dataplane, reversal of a SCION path.
use Rattle.std.specs.Prelude.{◌-◌, not, [], ◌∷◌, length, map, reverse, filter, nat_lt}
use Rattle.path_header.specs.declared.lens.SegLens.{SegLens}
use Rattle.path_header.specs.declared.fields.InfoField.{InfoField}
use Rattle.path_header.specs.Value.{HeaderValue, lens_from}

-- the lengths with the segments in reverse order; a length of zero is that of no segment
abbrev pub reversed_lens : SegLens → SegLens
reversed_lens l = lens_from (reverse (filter (nat_lt 0) (l.first ∷ l.second ∷ l.third ∷ [])))

-- the info field of the same segment, travelled the other way
abbrev pub turned_info : InfoField → InfoField
turned_info x = record x { construction = not x.construction }

-- the header of the way back: all fields in reverse order, with the packet at the same hop field
abbrev pub reversed_header : HeaderValue → HeaderValue
reversed_header v = record {
  curr_inf = length v.infos - 1 - v.curr_inf;
  curr_hf = length v.hops - 1 - v.curr_hf;
  lens = reversed_lens v.lens;
  infos = reverse (map turned_info v.infos);
  hops = reverse v.hops;
}
