-- The refusals of path headers, as lines of text report them.
use Rattle.std.specs.Prelude.{ℕ, List, codes}
use Rattle.path_header.specs.declared.fault.HeaderFault.{HeaderFault}
use Rattle.path_header.specs.declared.fault.HeaderFault.TheVariants.{Short, Reserved, PeerFlag, AlertFlag, SegLens, TooManyHops, BadIndex, RoomTooSmall}

-- the number and the name of a refusal
abbrev pub code_and_name : HeaderFault → ℕ × List ℕ
code_and_name Short = (20, codes "Short")
code_and_name Reserved = (21, codes "Reserved")
code_and_name PeerFlag = (22, codes "PeerFlag")
code_and_name AlertFlag = (23, codes "AlertFlag")
code_and_name SegLens = (24, codes "SegLens")
code_and_name TooManyHops = (25, codes "TooManyHops")
code_and_name BadIndex = (26, codes "BadIndex")
code_and_name RoomTooSmall = (27, codes "RoomTooSmall")
