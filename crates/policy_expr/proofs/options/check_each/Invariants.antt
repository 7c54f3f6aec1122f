-- What judges the texts that are left judges all of them.
use Rattle.std.proofs.Common.{drop, Result}
use Rattle.policy_expr.specs.declared.option_fault.OptionFault.{OptionFault}
use Rattle.refusal.specs.Refusal.{each, Judges}
use Rattle.policy_expr.specs.Options.{option_at}
use Rattle.policy_expr.proofs.options.check_each.Given as goal

abbrev pub invariant-loop-text : goal.invariant-loop-text
invariant-loop-text l = (told : Result (Unit {0}) OptionFault) → Judges told (each option_at (drop l.text-index l.texts)) → Judges told (each option_at l.texts)
