-- The refusals of beaconing, as lines of text report them.
use Rattle.std.specs.Prelude.{ℕ, List, codes}
use Rattle.path_segment.specs.Fault as segments
use Rattle.path_segment.specs.declared.fault.SegmentFault.TheVariants as segment
use Rattle.beaconing.specs.declared.fault.BeaconFault.{BeaconFault}
use Rattle.beaconing.specs.declared.fault.BeaconFault.TheVariants.{TooLong, Loop, NotCore, NoInterface, LinkDown, WrongKind, NotHere}

-- the number and the name of a refusal
abbrev pub code_and_name : BeaconFault → ℕ × List ℕ
code_and_name TooLong = segments.code_and_name segment.TooLong
code_and_name Loop = segments.code_and_name segment.Loop
code_and_name NotCore = (40, codes "NotCore")
code_and_name NoInterface = (41, codes "NoInterface")
code_and_name LinkDown = (42, codes "LinkDown")
code_and_name WrongKind = (43, codes "WrongKind")
code_and_name NotHere = (44, codes "NotHere")
