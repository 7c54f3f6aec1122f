use Rattle.std.proofs.Common.{◌<◌, ◌^◌, refl, arith}
use Rattle.policy_expr.proofs.Sets.{none_high, split_half, split_high}
use Rattle.policy_expr.proofs.pred_set.Members.next_high.Goals as goal

pub returns-then-self-eq0 : goal.returns-then-self-eq0
returns-then-self-eq0 c =
    let fits : c.self.inside.low < 2 ^ 64 = c.self.invariant in
    (rw (← c.self.view_is) (λ k. none_high c.self.inside.high c.self.inside.low k fits c.if-self-eq0.true), refl)

pub returns : goal.returns
returns c =
    let some : 0 < c.self.inside.high = let ne = c.if-self-eq0.false in omega (arith, ne) in
    let fits : c.self.inside.high < 2 ^ 64 = omega arith in
    let low_fits : c.self.inside.low < 2 ^ 64 = c.self.invariant in
    rw (← c.self.view_is) (split_high c.self.inside.high c.self.inside.low _ _ low_fits (split_half _ some fits))
