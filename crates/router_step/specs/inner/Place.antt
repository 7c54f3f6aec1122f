-- What a router has read of a header.
use Rattle.std.specs.Prelude.{Bool}
use Rattle.path_header.specs.Value.{HeaderValue}
use Rattle.router_step.specs.declared.place.Here.{Here}
use Rattle.router_step.specs.Place.{current_info, current_hop}

-- the place of the packet on its path, and the fields there, after a switch of segments or without
abbrev pub here_in : (switched : Bool) → HeaderValue → Here
here_in switched header = record {
  switched = switched;
  lens = header.lens;
  segment = header.curr_inf;
  place = header.curr_hf;
  info = current_info header;
  hop = current_hop header;
}
