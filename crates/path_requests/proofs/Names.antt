-- The names of refusals have at most 32 bytes.
use Rattle.std.proofs.Common.{ℕ, ◌≤◌, length}
use Rattle.std.proofs.Math.Facts.{leb_yes}
use Rattle.path_segment.specs.declared.fault.SegmentFault.{SegmentFault}
use Rattle.path_segment.specs.declared.fault.SegmentFault.TheVariants.{TooShort, TooLong, BadEnds, Loop as SegmentLoop, NotJson}
use Rattle.path_segment.specs.Fault as segments
use Rattle.path_header.specs.declared.fault.HeaderFault.{HeaderFault}
use Rattle.path_header.specs.declared.fault.HeaderFault.TheVariants.{Short, Reserved, PeerFlag, AlertFlag, SegLens, TooManyHops as HeaderTooManyHops, BadIndex, RoomTooSmall}
use Rattle.path_header.specs.Fault as headers
use Rattle.policy_expr.specs.declared.fault.PolicyFault.{PolicyFault}
use Rattle.policy_expr.specs.declared.fault.PolicyFault.TheVariants.{UnexpectedEnd, BadPredicate, Unbalanced, TooDeep, TooLarge, NoDefault, AfterDefault}
use Rattle.policy_expr.specs.Fault as policies
use Rattle.policy_expr.specs.declared.option_fault.OptionFault.{OptionFault}
use Rattle.policy_expr.specs.declared.option_fault.OptionFault.TheVariants.{OptionCount, Unread}
use Rattle.policy_expr.specs.Options as options
use Rattle.path_verifier.specs.declared.fault.VerifyFault.{VerifyFault}
use Rattle.path_verifier.specs.declared.fault.VerifyFault.TheVariants.{PieceCount, Range, Kinds, CutAtCore, NotJoined, Source, Destination, TooManyHops as PathTooManyHops, Loop as PathLoop, Expired, HeaderDiffers, AclDenied, SequenceMismatch}
use Rattle.path_verifier.specs.Fault as paths
use Rattle.combinator.specs.declared.fault.CombineFault.{CombineFault}
use Rattle.combinator.specs.declared.fault.CombineFault.TheVariants.{SameAs}
use Rattle.combinator.specs.Fault as ends
use Rattle.path_requests.specs.declared.fault.RequestFault.{RequestFault}
use Rattle.path_requests.specs.declared.fault.RequestFault.TheVariants.{BadRequest, Segment, BadLimit, Policy, Ends, Header, Path}
use Rattle.path_requests.specs.Fault.{code_and_name}

of_segment : (fault : SegmentFault) → length (segments.code_and_name fault).1 ≤ 32
of_segment TooShort = leb_yes tt
of_segment TooLong = leb_yes tt
of_segment BadEnds = leb_yes tt
of_segment SegmentLoop = leb_yes tt
of_segment NotJson = leb_yes tt

of_header : (fault : HeaderFault) → length (headers.code_and_name fault).1 ≤ 32
of_header Short = leb_yes tt
of_header Reserved = leb_yes tt
of_header PeerFlag = leb_yes tt
of_header AlertFlag = leb_yes tt
of_header SegLens = leb_yes tt
of_header HeaderTooManyHops = leb_yes tt
of_header BadIndex = leb_yes tt
of_header RoomTooSmall = leb_yes tt

of_policy : (fault : PolicyFault) → length (policies.code_and_name fault).1 ≤ 32
of_policy UnexpectedEnd = leb_yes tt
of_policy BadPredicate = leb_yes tt
of_policy Unbalanced = leb_yes tt
of_policy TooDeep = leb_yes tt
of_policy TooLarge = leb_yes tt
of_policy NoDefault = leb_yes tt
of_policy AfterDefault = leb_yes tt

of_option : (fault : OptionFault) → length (options.code_and_name fault).1 ≤ 32
of_option OptionCount = leb_yes tt
of_option (Unread fault) = of_policy fault

of_path : (fault : VerifyFault) → length (paths.code_and_name fault).1 ≤ 32
of_path PieceCount = leb_yes tt
of_path Range = leb_yes tt
of_path Kinds = leb_yes tt
of_path CutAtCore = leb_yes tt
of_path NotJoined = leb_yes tt
of_path Source = leb_yes tt
of_path Destination = leb_yes tt
of_path PathTooManyHops = leb_yes tt
of_path PathLoop = leb_yes tt
of_path Expired = leb_yes tt
of_path HeaderDiffers = leb_yes tt
of_path (AclDenied denied) = leb_yes tt
of_path SequenceMismatch = leb_yes tt

of_ends : (fault : CombineFault) → length (ends.code_and_name fault).1 ≤ 32
of_ends SameAs = leb_yes tt

pub short_name : (fault : RequestFault) → length (code_and_name fault).1 ≤ 32
short_name BadRequest = leb_yes tt
short_name (Segment fault) = of_segment fault
short_name BadLimit = leb_yes tt
short_name (Policy fault) = of_option fault
short_name (Ends fault) = of_ends fault
short_name (Header fault) = of_header fault
short_name (Path fault) = of_path fault
