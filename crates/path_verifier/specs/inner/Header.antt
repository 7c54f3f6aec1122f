-- Lengths of segments that fit into their bits.
use Rattle.std.specs.Prelude.{◌<◌}
use Rattle.path_header.specs.declared.lens.SegLens.{SegLens}

-- each length fits into six bits
abbrev pub HaveSixBits : SegLens → Type 0
HaveSixBits lens = (lens.first < 64) × (lens.second < 64) × (lens.third < 64)
