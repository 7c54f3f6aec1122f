-- The refusals of requests, as answers report them.
use Rattle.std.specs.Prelude.{ℕ, codes, List}
use Rattle.path_segment.specs.declared.fault.SegmentFault.{SegmentFault}
use Rattle.path_segment.specs.declared.fault.SegmentFault.TheVariants.{NotJson}
use Rattle.path_segment.specs.Fault as segments
use Rattle.path_header.specs.Fault as headers
use Rattle.path_verifier.specs.Fault as paths
use Rattle.policy_expr.specs.Options as options
use Rattle.combinator.specs.Fault as ends
use Rattle.path_requests.specs.declared.fault.RequestFault.{RequestFault}
use Rattle.path_requests.specs.declared.fault.RequestFault.TheVariants.{BadRequest, Segment, BadLimit, Policy, Ends, Header, Path}

-- the number and the name of a refusal
abbrev pub code_and_name : RequestFault → ℕ × List ℕ
code_and_name BadRequest = (150, codes "BadRequest")
code_and_name (Segment fault) = segments.code_and_name fault
code_and_name BadLimit = ends.bad_limit
code_and_name (Policy fault) = options.code_and_name fault
code_and_name (Ends fault) = ends.code_and_name fault
code_and_name (Header fault) = headers.code_and_name fault
code_and_name (Path fault) = paths.code_and_name fault

-- the refusal of a request because of a segment; a segment of the wrong form makes the request one
abbrev pub of_segment : SegmentFault → RequestFault
of_segment NotJson = BadRequest
of_segment broken = Segment broken
