use Rattle.std.proofs.Common.{drop, map}
use Rattle.std.specs.String.{string_bytes}
use Rattle.policy_expr.proofs.Checked.{Stands}
use Rattle.policy_expr.proofs.entry.check_entries.Given as goal

abbrev pub invariant-loop-text : goal.invariant-loop-text
invariant-loop-text l = Stands (map string_bytes l.texts) l.is_last_bare l.is_other_bare (map string_bytes (drop l.text-index l.texts))
