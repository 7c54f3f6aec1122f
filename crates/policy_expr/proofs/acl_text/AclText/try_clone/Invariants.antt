use Rattle.std.proofs.Common.{◌≡◌, map, take}
use Rattle.std.specs.String.{string_bytes}
use Rattle.policy_expr.proofs.acl_text.AclText.try_clone.Given as goal

abbrev pub invariant-loop-text : goal.invariant-loop-text
invariant-loop-text l = l.copy ≡ map string_bytes (take l.text-index l.texts)
