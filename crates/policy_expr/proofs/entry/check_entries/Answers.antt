use Rattle.std.proofs.Common.{◌≡◌, Err}
use Rattle.std.specs.Result.{result_map_both}
use Rattle.std.specs.String.{string_bytes}
use Rattle.std.proofs.lemmas.Result.{err_from_is_err_and}
use Rattle.policy_expr.specs.declared.fault.PolicyFault.{PolicyFault}
use Rattle.policy_expr.specs.Acl.{is_bare, entry_at}
use Rattle.policy_expr.proofs.Checked.{judged_refused, judged_end, too_large, no_default, after_default, no_fault}
use Rattle.policy_expr.proofs.entry.check_entries.Goals as goal

pub returns-in_err-is_bare : goal.returns-in_err-is_bare
returns-in_err-is_bare c =
    let p = err_from_is_err_and c.from_residual.result c.from_residual.ensures.1 in
    let read : result_map_both is_bare (λ (fault : PolicyFault). fault) (entry_at (string_bytes c.text-item.result)) ≡ Err c.in_err-is_bare.field-0.0 =
    cc (c.in_err-is_bare.ensures, c.as_str.ensures.value) in
    rw (p.1, p.2) (judged_refused string_bytes c.args.texts.now c.loop-text.text-index _ _ c.loop-text.invariant c.text-item.result c.in_err-is_bare.field-0.0 c.loop-text-test.true c.text-item.is read)

pub returns-then-texts-gt-MAX_ACL_ENTRIES : goal.returns-then-texts-gt-MAX_ACL_ENTRIES
returns-then-texts-gt-MAX_ACL_ENTRIES c =
    judged_end string_bytes c.args.texts.now c.loop-text.text-index _ _ c.loop-text.invariant _ c.loop-text-test.false
    (λ n count. too_large n _ _ (rw count c.if-texts-gt-MAX_ACL_ENTRIES.true))

pub returns-then-not-is_last_bare : goal.returns-then-not-is_last_bare
returns-then-not-is_last_bare c =
    judged_end string_bytes c.args.texts.now c.loop-text.text-index _ _ c.loop-text.invariant _ c.loop-text-test.false
    (λ n count. no_default n _ _ (rw count c.if-texts-gt-MAX_ACL_ENTRIES.false) c.if-not-is_last_bare.true)

pub returns-then-is_other_bare-2 : goal.returns-then-is_other_bare-2
returns-then-is_other_bare-2 c =
    judged_end string_bytes c.args.texts.now c.loop-text.text-index _ _ c.loop-text.invariant _ c.loop-text-test.false
    (λ n count. after_default n _ _ (rw count c.if-texts-gt-MAX_ACL_ENTRIES.false) c.if-not-is_last_bare.false c.if-is_other_bare-2.true)

pub returns : goal.returns
returns c =
    judged_end string_bytes c.args.texts.now c.loop-text.text-index _ _ c.loop-text.invariant _ c.loop-text-test.false
    (λ n count. no_fault n _ _ (rw count c.if-texts-gt-MAX_ACL_ENTRIES.false) c.if-not-is_last_bare.false c.if-is_other_bare-2.false)
