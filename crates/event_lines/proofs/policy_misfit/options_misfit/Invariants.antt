-- Each option so far has its form.
use Rattle.std.proofs.Common.{◌≡◌, ℕ, ◌<◌, Some, None, slice_get}
use Rattle.serde_json.specs.View.{view}
use Rattle.serde_json.specs.declared.value.Value.{Value}
use Rattle.event_lines.specs.PolicyForm.{option_misfit}
use Rattle.event_lines.proofs.policy_misfit.options_misfit.Given as goal

abbrev pub invariant-loop-number : goal.invariant-loop-number
invariant-loop-number l = (k : ℕ) (one : Value) → k < l.number → slice_get l.options k ≡ Some one
    → option_misfit k (view one) ≡ None
