-- What of a policy denies a walk.
use Rattle.std.specs.Prelude.{List, Option}
use Rattle.policy_expr.specs.declared.acl.AclEntry.{AclEntry}
use Rattle.policy_expr.specs.declared.hop.WalkHop.{WalkHop}
use Rattle.policy_expr.specs.Policy.{AllowsHops, DeniesHop}
use Rattle.line_faults.specs.declared.unanswered.Denial.{Denial}
use Rattle.line_faults.specs.declared.unanswered.Denial.TheVariants.{Entry, Sequence}

-- the entry of its list that denies a hop, and this hop; or its sequence, where the list allows all
abbrev pub DeniesWalk : (acl : Option (List AclEntry)) (walk : List WalkHop) → Denial → Type 0
DeniesWalk acl walk (Entry entry hop) = DeniesHop acl walk (record { hop = hop; entry = entry })
DeniesWalk acl walk Sequence = AllowsHops acl walk
