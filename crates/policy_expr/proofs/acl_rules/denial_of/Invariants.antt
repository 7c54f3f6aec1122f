use Rattle.std.proofs.Common.{◌≡◌, ℕ, ◌<◌, Some, slice_get}
use Rattle.policy_expr.specs.declared.hop.WalkHop.{WalkHop}
use Rattle.policy_expr.specs.Acl.{Allowed}
use Rattle.policy_expr.proofs.acl_rules.denial_of.Given as goal

-- each hop so far is allowed
abbrev pub invariant-loop-place : goal.invariant-loop-place
invariant-loop-place l = (k : ℕ) (other : WalkHop) → k < l.place → slice_get l.walk k ≡ Some other → Allowed l.entries other
