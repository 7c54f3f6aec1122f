-- The refusals of a path, as lines of text report them.
use Rattle.std.specs.Prelude.{ℕ, List, codes}
use Rattle.path_verifier.specs.declared.fault.VerifyFault.{VerifyFault}
use Rattle.path_verifier.specs.declared.fault.VerifyFault.TheVariants.{PieceCount, Range, Kinds, CutAtCore, NotJoined, Source, Destination, TooManyHops, Loop, Expired, HeaderDiffers, AclDenied, SequenceMismatch}

-- the number and the name of a refusal
abbrev pub code_and_name : VerifyFault → ℕ × List ℕ
code_and_name PieceCount = (70, codes "PieceCount")
code_and_name Range = (71, codes "Range")
code_and_name Kinds = (72, codes "Kinds")
code_and_name CutAtCore = (73, codes "CutAtCore")
code_and_name NotJoined = (74, codes "NotJoined")
code_and_name Source = (75, codes "Source")
code_and_name Destination = (76, codes "Destination")
code_and_name TooManyHops = (77, codes "TooManyHops")
code_and_name Loop = (78, codes "Loop")
code_and_name Expired = (79, codes "Expired")
code_and_name HeaderDiffers = (80, codes "HeaderDiffers")
code_and_name (AclDenied denied) = (81, codes "AclDenied")
code_and_name SequenceMismatch = (82, codes "SequenceMismatch")

-- the number of a refusal; the rules of a path are looked at in the order of these numbers
abbrev pub code_of : VerifyFault → ℕ
code_of refusal = (code_and_name refusal).0
