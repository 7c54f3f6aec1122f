use Rattle.std.proofs.Common.{◌<◌, ◌^◌, refl, arith}
use Rattle.policy_expr.proofs.Sets.{half_smaller, lowest_below, none_low, split_half, split_low}
use Rattle.policy_expr.proofs.pred_set.Members.next_low.Goals as goal

pub returns-then-self-eq0 : goal.returns-then-self-eq0
returns-then-self-eq0 c = (rw (← c.self.view_is) (λ k. none_low c.self.inside.high c.self.inside.low k c.if-self-eq0.true), refl)

pub returns : goal.returns
returns c =
    let some : 0 < c.self.inside.low = let ne = c.if-self-eq0.false in omega (arith, ne) in
    let fits : c.self.inside.low < 2 ^ 64 = omega arith in
    rw (← c.self.view_is) (split_low c.self.inside.high c.self.inside.low _ _ fits (half_smaller _ fits) (lowest_below _ some fits) (split_half _ some fits))
