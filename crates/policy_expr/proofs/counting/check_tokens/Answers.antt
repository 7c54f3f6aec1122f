use Rattle.std.proofs.Common.{arith, sym}
use Rattle.std.proofs.lemmas.Result.{err_from_is_err_and}
use Rattle.policy_expr.proofs.Weights.{stands_next, stands_refused, end_refused, end_large, end_small}
use Rattle.policy_expr.proofs.counting.check_tokens.Goals as goal

pub returns-in_err-place : goal.returns-in_err-place
returns-in_err-place c = λ text same.
    let p = err_from_is_err_and c.from_residual.result c.from_residual.ensures.1 in
    rw (p.1, p.2) (stands_refused _ _ _ _ _ _ _ _ (c.loop-token.invariant.stands text same) c.in-Some.ensures c.in_err-place.ensures.fault)

pub loop-token-preserved : goal.loop-token-preserved
loop-token-preserved c =
    rw (c.min-weight.ensures, c.weight_of.ensures) record {
      small = omega arith;
      stands = λ text same. stands_next _ _ _ _ _ _ _ _ _ (c.loop-token.invariant.stands text same) c.in-Some.ensures c.in_ok-place.ensures.goes_on;
    }

pub returns-in_err-check_end : goal.returns-in_err-check_end
returns-in_err-check_end c = λ text same.
    let p = err_from_is_err_and c.from_residual-in_err-check_end.result c.from_residual-in_err-check_end.ensures.1 in
    rw (p.1, p.2) (end_refused _ _ _ _ _ _ (c.loop-token.invariant.stands text same) c.in_default.ensures (sym c.in_err-check_end.ensures))

pub returns-then-weight-gt-MAX_WEIGHT : goal.returns-then-weight-gt-MAX_WEIGHT
returns-then-weight-gt-MAX_WEIGHT c = λ text same.
    end_large _ _ _ _ _ (c.loop-token.invariant.stands text same) c.in_default.ensures (sym c.in_ok-check_end.ensures) c.if-weight-gt-MAX_WEIGHT.true

pub returns : goal.returns
returns c = λ text same.
    end_small _ _ _ _ _ (c.loop-token.invariant.stands text same) c.in_default.ensures (sym c.in_ok-check_end.ensures) c.if-weight-gt-MAX_WEIGHT.false
