-- What was read and what is still to be read are what all of the texts are read as.
use Rattle.std.proofs.Common.{◌≡◌, drop}
use Rattle.refusal.specs.Refusal.{each}
use Rattle.policy_expr.specs.Options.{option_at}
use Rattle.policy_expr.proofs.Front.{with_front}
use Rattle.policy_expr.proofs.options.read_each.Given as goal

abbrev pub invariant-loop-text : goal.invariant-loop-text
invariant-loop-text g l = with_front l.options.items (each option_at (drop l.text-index l.texts)) ≡ each option_at l.texts
