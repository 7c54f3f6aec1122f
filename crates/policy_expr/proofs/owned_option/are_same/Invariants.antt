use Rattle.std.proofs.Common.{◌≡◌, ◌↔◌, length, map}
use Rattle.std.specs.String.{string_bytes}
use Rattle.policy_expr.proofs.owned_option.are_same.Given as goal

abbrev pub invariant-loop-text : goal.invariant-loop-text
invariant-loop-text l = (map string_bytes l.rest ≡ map string_bytes l.more) ↔ (map string_bytes l.texts ≡ map string_bytes l.others)

abbrev pub decreases-loop-text : goal.decreases-loop-text
decreases-loop-text l = length l.rest
