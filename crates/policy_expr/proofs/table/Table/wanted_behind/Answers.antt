use Rattle.policy_expr.proofs.Passes.{wants_more}
use Rattle.policy_expr.proofs.table.Table.wanted_behind.Goals as goal

pub loop-number-preserved : goal.loop-number-preserved
loop-number-preserved g c = wants_more _ _ _ _ _ _ _ _ c.loop-number.invariant c.in-Some.ensures c.with_followers-next.ensures

pub loop-number-2-preserved : goal.loop-number-2-preserved
loop-number-2-preserved g c =
    let split = c.in-Some-next_high.ensures in
    record {
      so_far = wants_more _ _ _ _ _ _ _ _ c.loop-number-2.invariant.so_far split c.with_followers-next-in-Some-next_high.ensures;
      low = λ k below has. c.loop-number-2.invariant.low k below ((split.rest k).0 has).0;
    }
