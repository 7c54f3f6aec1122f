use Rattle.std.proofs.Common.{sym, ◌∙◌, arith}
use Rattle.std.proofs.lemmas.Cmp.{tied_back}
use Rattle.combinator.specs.Order.{path_cmp}
use Rattle.combinator.proofs.Ranks.{path_total}
use Rattle.combinator.proofs.Agreeing.{tied_at}
use Rattle.combinator.proofs.Searched.{less_upto, greater_from}
use Rattle.combinator.proofs.ordered.place_in.Goals as goal

pub loop-low-preserved-in-Less : goal.loop-low-preserved-in-Less
loop-low-preserved-in-Less c = record {
  range = omega (arith, c.loop-low-test.true);
  within = c.loop-low.invariant.within;
  before = less_upto path_cmp path_total c.args.ordered.now c.args.found.now _ c.index-ordered-middle.result c.requires
      (let upto = c.loop-low.invariant.within in omega (arith, c.loop-low-test.true)) c.index-ordered-middle.is
      (sym c.compare.ensures ∙ c.in-Less.is);
  behind = c.loop-low.invariant.behind;
}

pub loop-low-preserved : goal.loop-low-preserved
loop-low-preserved c = record {
  range = omega (arith, c.loop-low-test.true);
  within = (let upto = c.loop-low.invariant.within in omega (arith, c.loop-low-test.true));
  before = c.loop-low.invariant.before;
  behind = greater_from path_cmp path_total c.args.ordered.now c.args.found.now _ c.index-ordered-middle.result c.requires
      (let upto = c.loop-low.invariant.within in omega (arith, c.loop-low-test.true)) c.index-ordered-middle.is
      (sym c.compare.ensures ∙ c.in-Greater.is);
}

pub returns-in-Equal-clause-tied : goal.returns-in-Equal-clause-tied
returns-in-Equal-clause-tied c =
    tied_at c.args.found.now c.args.ordered.now _ c.index-ordered-middle.result
    (let upto = c.loop-low.invariant.within in omega (arith, c.loop-low-test.true))
    (sym c.index-ordered-middle.is)
    (tied_back path_total c.index-ordered-middle.result c.args.found.now (sym c.compare.ensures ∙ c.in-Equal.is))
