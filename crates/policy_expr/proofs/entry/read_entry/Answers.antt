use Rattle.std.proofs.Common.{arith}
use Rattle.separators.proofs.Ascii.{behind_ascii}
use Rattle.policy_expr.proofs.entry.read_entry.Goals as goal

pub range_from-requires : goal.range_from-requires
range_from-requires c = λ _. behind_ascii _ _ _ _ c.as_bytes.ensures.utf8 c.as_bytes.ensures.value c.in-Some-eq43-default.ensures.cases.0 (omega arith)

pub range_from-requires-in-Some-eq45-default : goal.range_from-requires-in-Some-eq45-default
range_from-requires-in-Some-eq45-default c =
    λ _. behind_ascii _ _ _ _ c.as_bytes.ensures.utf8 c.as_bytes.ensures.value c.in-Some-eq45-default.ensures.cases.0 (omega arith)
