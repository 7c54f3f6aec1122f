use Rattle.std.proofs.Common.{◌≡◌, ◌≤◌, ℕ, List, length}
use Rattle.policy_expr.specs.Tokens.{tokens}
use Rattle.policy_expr.specs.inner.Views.{remaining}
use Rattle.policy_expr.proofs.Weights.{StandsAt}
use Rattle.policy_expr.proofs.counting.check_tokens.Given as goal

abbrev pub invariant-loop-token : goal.invariant-loop-token
invariant-loop-token l = record {
  small : l.weight ≤ 258;
  stands : (text : List ℕ) → tokens text ≡ remaining l.fn.all
      → StandsAt text (remaining l.rest) l.place.depth l.place.has_item l.weight;
}

abbrev pub decreases-loop-token : goal.decreases-loop-token
decreases-loop-token l = length (remaining l.rest)
