-- The first misfit of the members that are left is that of all.
use Rattle.std.proofs.Common.{◌≡◌, length, map}
use Rattle.serde_json.specs.View.{view}
use Rattle.event_lines.specs.Members.{first_misfit, member_value}
use Rattle.event_lines.proofs.members.first_misfit.Given as goal

abbrev pub invariant-loop-first : goal.invariant-loop-first
invariant-loop-first l =
    first_misfit (map member_value l.rest) (view l.object)
    ≡ first_misfit (map member_value l.members) (view l.object)

abbrev pub decreases-loop-first : goal.decreases-loop-first
decreases-loop-first l = length l.rest
