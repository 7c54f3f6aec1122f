use Rattle.std.proofs.Common.{◌≡◌, true, cond, count_by, [], ◌∷◌, ◌++◌, sym, ap, ◌∙◌, subst, arith}
use Rattle.std.specs.Prelude.{is_ok}
use Rattle.std.proofs.lemmas.Grind.{common_steps}
use Rattle.beacon_lines.specs.inner.Spreading.{AreCounted, is_at}
use Rattle.beacon_lines.proofs.Counting.{counted_more}
use Rattle.beacon_lines.proofs.arrivals.Arrivals.add.Goals as goal

pub invariant_of-self-3 : goal.invariant_of-self-3
invariant_of-self-3 c =
    let arrivals = c.self.inside.list.items in
    let ok : is_ok c.push.result ≡ true = grind (arith, common_steps) in
    let pushed = c.push.ensures.items
    ∙ ap (λ b. cond b (c.try_reserve.new.self.items ++ c.args.arrival ∷ [])
    c.try_reserve.new.self.items) ok
    ∙ ap (λ all. all ++ c.args.arrival ∷ []) c.try_reserve.ensures.items in
    subst (λ list. AreCounted list c.insert.new.self) (sym pushed)
    (counted_more arrivals c.args.arrival c.count-count.result c.self.inside.counts
    c.insert.new.self c.self.invariant
    (c.count-count.ensures ∙ ap (count_by (is_at c.args.arrival.ia)) c.try_reserve.ensures.items)
    c.in_ok-insert.ensures.updates.0)
