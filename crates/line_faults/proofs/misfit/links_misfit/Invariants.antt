-- Each of them so far has its form.
use Rattle.std.proofs.Common.{◌≡◌, ℕ, ◌<◌, codes, Some, None, slice_get}
use Rattle.serde_json.specs.View.{view}
use Rattle.serde_json.specs.declared.value.Value.{Value}
use Rattle.line_faults.specs.Misfits.{link_misfit, item_site}
use Rattle.line_faults.proofs.misfit.links_misfit.Given as goal

abbrev pub invariant-loop-number : goal.invariant-loop-number
invariant-loop-number l = (k : ℕ) (one : Value) → k < l.number → slice_get l.links k ≡ Some one
    → link_misfit (item_site (codes "links") k) (view one) ≡ None
