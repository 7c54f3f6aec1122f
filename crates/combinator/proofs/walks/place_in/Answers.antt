use Rattle.std.proofs.Common.{List, sym, ap, ◌∙◌, arith}
use Rattle.policy_expr.specs.declared.hop.WalkHop.{WalkHop}
use Rattle.combinator.specs.Order.{walk_cmp}
use Rattle.combinator.specs.inner.Gathered.{hops_in}
use Rattle.combinator.proofs.Listing.{length_seen, seen_at, there_at}
use Rattle.combinator.proofs.Ranks.{walk_total}
use Rattle.combinator.proofs.Searched.{less_upto, greater_from}
use Rattle.combinator.proofs.walks.place_in.Goals as goal

pub loop-low-preserved-in-Less : goal.loop-low-preserved-in-Less
loop-low-preserved-in-Less c =
    let upto = c.loop-low.invariant.within in
    let there = c.place_to_look-middle.ensures in
    let same = length_seen c.args.walks.now in record {
      range = omega (arith, c.loop-low-test.true, there);
      within = upto;
      before = less_upto walk_cmp walk_total (hops_in c.args.walks.now) c.args.walk.now _ c.index-walks-middle.result.items c.requires
          (omega (arith, c.loop-low-test.true, upto, same, there))
          (seen_at (λ walk. walk.items) c.args.walks.now _ c.index-walks-middle.result (omega (arith, c.loop-low-test.true, upto, there)) c.index-walks-middle.is)
          (ap (λ (hops : List WalkHop). walk_cmp hops c.args.walk.now) (sym c.deref.ensures.value) ∙ sym c.compare_walks.ensures ∙ c.in-Less.is);
      behind = c.loop-low.invariant.behind;
    }

pub loop-low-preserved : goal.loop-low-preserved
loop-low-preserved c =
    let upto = c.loop-low.invariant.within in
    let there = c.place_to_look-middle.ensures in
    let same = length_seen c.args.walks.now in record {
      range = omega (arith, c.loop-low-test.true, there);
      within = omega (arith, c.loop-low-test.true, upto, there);
      before = c.loop-low.invariant.before;
      behind = greater_from walk_cmp walk_total (hops_in c.args.walks.now) c.args.walk.now _ c.index-walks-middle.result.items c.requires
          (omega (arith, c.loop-low-test.true, upto, same, there))
          (seen_at (λ walk. walk.items) c.args.walks.now _ c.index-walks-middle.result (omega (arith, c.loop-low-test.true, upto, there)) c.index-walks-middle.is)
          (ap (λ (hops : List WalkHop). walk_cmp hops c.args.walk.now) (sym c.deref.ensures.value) ∙ sym c.compare_walks.ensures ∙ c.in-Greater.is);
    }

pub returns-in-Equal-clause-there : goal.returns-in-Equal-clause-there
returns-in-Equal-clause-there c =
    let upto = c.loop-low.invariant.within in
    let there = c.place_to_look-middle.ensures in
    let same = length_seen c.args.walks.now in
    there_at (hops_in c.args.walks.now) _ c.index-walks-middle.result.items c.args.walk.now
    (omega (arith, c.loop-low-test.true, upto, same, there))
    (seen_at (λ walk. walk.items) c.args.walks.now _ c.index-walks-middle.result (omega (arith, c.loop-low-test.true, upto, there)) c.index-walks-middle.is)
    (ap (λ (hops : List WalkHop). walk_cmp hops c.args.walk.now) (sym c.deref.ensures.value) ∙ sym c.compare_walks.ensures ∙ c.in-Equal.is)
