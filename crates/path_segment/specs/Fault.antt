-- The refusals of segments and beacons, as lines of text report them.
use Rattle.std.specs.Prelude.{ℕ, List, codes}
use Rattle.path_segment.specs.declared.fault.SegmentFault.{SegmentFault}
use Rattle.path_segment.specs.declared.fault.SegmentFault.TheVariants.{TooShort, TooLong, BadEnds, Loop, NotJson}

-- the number and the name of a refusal
abbrev pub code_and_name : SegmentFault → ℕ × List ℕ
code_and_name TooShort = (30, codes "TooShort")
code_and_name TooLong = (31, codes "TooLong")
code_and_name BadEnds = (32, codes "BadEnds")
code_and_name Loop = (33, codes "Loop")
code_and_name NotJson = (34, codes "NotJson")
