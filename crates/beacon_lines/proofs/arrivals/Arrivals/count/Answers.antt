use Rattle.std.proofs.Common.{◌≡◌, rules, ap, ◌∙◌, count_by}
use Rattle.beacon_lines.specs.inner.Spreading.{is_at}
use Rattle.beacon_lines.proofs.arrivals.Arrivals.count.Goals as goal

pub returns : goal.returns
returns c =
    let counted = c.self.invariant c.args.ia in
    let shown = ap (count_by (is_at c.args.ia)) c.self.view_is in
    let is : c.unwrap_or.result ≡ count_by (is_at c.args.ia) c.self.inside.list.items = search
    rules in
    is ∙ shown
