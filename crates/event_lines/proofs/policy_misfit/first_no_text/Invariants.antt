-- Each entry so far is a text.
use Rattle.std.proofs.Common.{◌≡◌, ℕ, ◌<◌, Some, None, slice_get}
use Rattle.serde_json.specs.View.{view}
use Rattle.serde_json.specs.declared.value.Value.{Value}
use Rattle.event_lines.specs.Members.{no_text}
use Rattle.event_lines.proofs.policy_misfit.first_no_text.Given as goal

abbrev pub invariant-loop-number : goal.invariant-loop-number
invariant-loop-number l = (k : ℕ) (one : Value) → k < l.number → slice_get l.entries k ≡ Some one
    → no_text k (view one) ≡ None
