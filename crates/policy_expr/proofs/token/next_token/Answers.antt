use Rattle.std.proofs.Common.{◌∙◌, sym}
use Rattle.policy_expr.proofs.Cutting.{none_taken, sign_taken, run_taken, run_is, behind_is_after, length_after_marks, marks_are_ascii}
use Rattle.policy_expr.proofs.token.next_token.Goals as goal

pub returns-in_default : goal.returns-in_default
returns-in_default c = none_taken _ _ c.trim_start-text.ensures c.in_default.ensures.cases

pub returns-then-not-is_mark_byte : goal.returns-then-not-is_mark_byte
returns-then-not-is_mark_byte c =
    sign_taken _ _ _ _ _ c.trim_start-text.ensures c.in-Some.ensures.cases.0 (sym c.is_mark_byte.ensures ∙ c.if-not-is_mark_byte.true) c.token_of_sign.ensures

pub slice_bounds-run-count : goal.slice_bounds-run-count
slice_bounds-run-count c = rw (c.behind_marks-rest.ensures, behind_is_after c.trim_start-text.result.now) (length_after_marks c.trim_start-text.result.now)

pub token_of_run-requires : goal.token_of_run-requires
token_of_run-requires c = rw (c.behind_marks-rest.ensures, behind_is_after c.trim_start-text.result.now, run_is c.trim_start-text.result.now) (marks_are_ascii c.trim_start-text.result.now)

pub returns : goal.returns
returns c =
    run_taken _ _ _ _ _ _ c.trim_start-text.ensures c.in-Some.ensures.cases.0 (sym c.is_mark_byte.ensures ∙ c.if-not-is_mark_byte.false)
    (c.behind_marks-rest.ensures ∙ behind_is_after c.trim_start-text.result.now) c.token_of_run.ensures
