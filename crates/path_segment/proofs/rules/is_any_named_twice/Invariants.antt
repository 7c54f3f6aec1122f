-- What is left names one twice exactly where all does.
use Rattle.std.proofs.Common.{◌≡◌, length}
use Rattle.path_segment.specs.Rules.{names_as_twice}
use Rattle.path_segment.proofs.rules.is_any_named_twice.Given as goal

abbrev pub invariant-loop-entry : goal.invariant-loop-entry
invariant-loop-entry l = names_as_twice l.rest ≡ names_as_twice l.entries

abbrev pub decreases-loop-entry : goal.decreases-loop-entry
decreases-loop-entry l = length l.rest
