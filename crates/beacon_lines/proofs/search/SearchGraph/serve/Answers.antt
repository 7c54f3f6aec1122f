use Rattle.std.proofs.Common.{◌≤◌, ◌<◌, length, sym, ◌∙◌, subst, arith}
use Rattle.beacon_lines.specs.inner.Search.{ways_for}
use Rattle.beacon_lines.specs.inner.Ways.{AreWays}
use Rattle.beacon_lines.proofs.Exploring.{Picks, begins_done, begins_next, passes_done, passes_next, serves}
use Rattle.beacon_lines.proofs.search.SearchGraph.serve.Goals as goal

pub loop-way-preserved : goal.loop-way-preserved
loop-way-preserved c =
    let wanted = c.args.wanted in
    let ways = ways_for c.args.self.now wanted.kind in
    let items = c.out_of-way-items.result.now in
    let picks : Picks ways c.args.origin items = λ n class all.
    c.out_of-way-items.ensures n class
    (subst (λ list. AreWays n class list) (sym c.ways-ways.ensures) all) in
    let i = c.loop-way.way-index in
    let within : i < length items = omega arith in
    record {
      second = c.begin.ensures.second ∙ c.loop-way.invariant.second;
      wanted = c.begin.ensures.wanted ∙ c.loop-way.invariant.wanted;
      begins = begins_next wanted c.args.origin ways items i c.way-item.result c.args.run.now.net
          c.loop-way.run.net
          c.begin.new.run.net c.loop-way.spread.arrivals c.begin.new.self.arrivals picks within
          (sym c.way-item.is)
          c.loop-way.spread.wanted c.loop-way.invariant.wanted c.in_ok-begin.ensures.sends
          c.loop-way.invariant.begins;
    }

pub loop-from-init : goal.loop-from-init
loop-from-init c =
    let wanted = c.args.wanted in
    let ways = ways_for c.args.self.now wanted.kind in
    let items = c.out_of-way-items.result.now in
    let picks : Picks ways c.args.origin items = λ n class all.
    c.out_of-way-items.ensures n class
    (subst (λ list. AreWays n class list) (sym c.ways-ways.ensures) all) in
    let i = c.loop-way.way-index in
    let past : length items ≤ i = omega arith in
    record {
      second = c.loop-way.invariant.second;
      wanted = c.loop-way.invariant.wanted;
      explores = begins_done wanted c.args.origin ways items i c.args.run.now.net c.loop-way.run.net
          c.loop-way.spread.arrivals picks past c.loop-way.invariant.begins;
    }

pub loop-way-2-preserved : goal.loop-way-2-preserved
loop-way-2-preserved c =
    let wanted = c.args.wanted in
    let ways = ways_for c.args.self.now wanted.kind in
    let items = c.out_of-way-items-in-Some.result.now in
    let from = c.in-Some.from in
    let picks : Picks ways from.ia items = λ n class all.
    c.out_of-way-items-in-Some.ensures n class
    (subst (λ list. AreWays n class list) (sym c.ways-ways.ensures) all) in
    let i = c.loop-way-2.way-index in
    let within : i < length items = omega arith in
    record {
      second = c.pass_on.ensures.second ∙ c.loop-way-2.invariant.second;
      wanted = c.pass_on.ensures.wanted ∙ c.loop-way-2.invariant.wanted;
      passes = passes_next wanted c.args.origin ways items i c.way-item-in-loop-way-2.result
          c.args.run.now.net
          c.loop-way-2.run.net c.pass_on.new.run.net c.loop-way-2.spread.arrivals
          c.pass_on.new.self.arrivals
          c.loop-from.number from picks within (sym c.way-item-in-loop-way-2.is)
          c.loop-way-2.spread.wanted c.loop-way-2.invariant.wanted c.in_ok-pass_on.ensures.sends
          c.loop-way-2.invariant.passes;
    }

pub loop-from-preserved : goal.loop-from-preserved
loop-from-preserved c =
    let wanted = c.args.wanted in
    let ways = ways_for c.args.self.now wanted.kind in
    let items = c.out_of-way-items-in-Some.result.now in
    let from = c.in-Some.from in
    let picks : Picks ways from.ia items = λ n class all.
    c.out_of-way-items-in-Some.ensures n class
    (subst (λ list. AreWays n class list) (sym c.ways-ways.ensures) all) in
    let i = c.loop-way-2.way-index in
    let past : length items ≤ i = omega arith in
    record {
      second = c.loop-way-2.invariant.second;
      wanted = c.loop-way-2.invariant.wanted;
      explores = passes_done wanted c.args.origin ways items i c.args.run.now.net
          c.loop-way-2.run.net
          c.loop-way-2.spread.arrivals c.loop-from.number from picks past
          c.loop-way-2.invariant.passes;
    }

pub returns-clause-served : goal.returns-clause-served
returns-clause-served c =
    let wanted = c.args.wanted in
    serves wanted c.args.origin (ways_for c.args.self.now wanted.kind) c.args.run.now.net
    c.loop-from.run.net
    c.loop-from.spread.arrivals c.loop-from.number (sym c.get.ensures.value ∙ c.in_default.is)
    c.loop-from.invariant.explores
