-- The accumulator so far and the entries that are left give the accumulator after all.
use Rattle.std.proofs.Common.{◌≡◌, drop}
use Rattle.path_segment.specs.Chain.{beta_over}
use Rattle.path_segment.proofs.chain.beta_after_all.Given as goal

abbrev pub invariant-loop-entry : goal.invariant-loop-entry
invariant-loop-entry l = beta_over l.beta (drop l.entry-index l.entries) ≡ beta_over l.beta0 l.entries
