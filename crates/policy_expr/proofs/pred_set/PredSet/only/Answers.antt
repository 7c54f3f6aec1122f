use Rattle.std.proofs.Common.{◌≡◌, ◌*◌, ◌+◌, ◌%◌, ◌^◌, ◌≤◌, ◌∙◌, arith, lit<}
use Rattle.std.proofs.lemmas.Nat.{shl_whole}
use Rattle.policy_expr.proofs.Sets.{only_has}
use Rattle.policy_expr.proofs.pred_set.PredSet.only.Goals as goal

pub returns : goal.returns
returns c =
    let fits : 1 + c.args.number ≤ 128 = omega arith in
    let whole : 1 * 2 ^ c.args.number % 2 ^ 128 ≡ 1 * 2 ^ c.args.number = shl_whole 1 1 c.args.number 128 (lit< tt) fits in
    let plain : 1 * 2 ^ c.args.number ≡ 2 ^ c.args.number = omega arith in
    λ k. rw (whole ∙ plain) (only_has c.args.number k)
