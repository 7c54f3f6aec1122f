-- The text so far has the warnings so far.
use Rattle.std.proofs.Common.{◌≡◌, ◌++◌, take}
use Rattle.std.specs.Prelude.{flat_map}
use Rattle.std.specs.String.{string_bytes}
use Rattle.line_faults.specs.Finding.{written}
use Rattle.line_faults.specs.inner.Adding.{warning_of}
use Rattle.line_faults.proofs.explanation.push_warnings.Given as goal

abbrev pub invariant-loop-warning : goal.invariant-loop-warning
invariant-loop-warning l =
    string_bytes l.text
    ≡ string_bytes l.initial.text ++ flat_map (λ warning. written l.form (warning_of l.number warning))
    (take l.warning-index l.warnings)
