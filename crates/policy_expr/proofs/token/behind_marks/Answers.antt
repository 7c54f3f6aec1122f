use Rattle.std.proofs.Common.{sym, ◌∙◌}
use Rattle.policy_expr.proofs.Cutting.{behind_stop, behind_end, behind_more}
use Rattle.policy_expr.proofs.token.behind_marks.Goals as goal

pub returns-then-not-is_mark_byte : goal.returns-then-not-is_mark_byte
returns-then-not-is_mark_byte c =
    behind_stop _ _ _ _ c.loop-byte.invariant c.in-Some.ensures.cases.0 (sym c.is_mark_byte.ensures ∙ c.if-not-is_mark_byte.true)

pub loop-byte-preserved : goal.loop-byte-preserved
loop-byte-preserved c =
    behind_more _ _ _ _ c.loop-byte.invariant c.in-Some.ensures.cases.0 (sym c.is_mark_byte.ensures ∙ c.if-not-is_mark_byte.false)

pub returns : goal.returns
returns c = behind_end _ _ c.loop-byte.invariant c.in_default.ensures.cases
