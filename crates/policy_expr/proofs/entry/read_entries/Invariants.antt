-- What was read and what is still to be read are what all of the texts read as.
use Rattle.std.proofs.Common.{◌≡◌, drop, map}
use Rattle.std.specs.String.{string_bytes}
use Rattle.refusal.specs.Refusal.{each}
use Rattle.policy_expr.specs.Acl.{entry_at}
use Rattle.policy_expr.proofs.Front.{with_front}
use Rattle.policy_expr.proofs.entry.read_entries.Given as goal

abbrev pub invariant-loop-text : goal.invariant-loop-text
invariant-loop-text g l = with_front l.entries.items (each entry_at (map string_bytes (drop l.text-index l.texts))) ≡ each entry_at (map string_bytes l.texts)
