use Rattle.combinator.proofs.Grouped.{rest_within, each_more, grouped_more, own_more, are_groups_of}
use Rattle.combinator.proofs.groups.groups_of.Goals as goal

pub loop-start-preserved : goal.loop-start-preserved
loop-start-preserved c =
    let pieces = c.args.pieces.now in
    let start = c.loop-start.start in
    let count = c.count_alike-count.result in
    let old = c.loop-start.groups.items in
    let new = c.push.new.self.items in
    let head = c.index-rest-0.result in
    let is = c.of.ensures.value in
    let grown = c.in_ok-push.ensures.items in record {
      within = rest_within pieces start count c.loop-start-test.true c.count_alike-count.ensures.within;
      each = each_more pieces start count old new head c.of.result is grown c.of.ensures.group c.loop-start.invariant.each;
      grouped = grouped_more pieces start count old new head c.of.result is grown c.loop-start.invariant.grouped;
      own = own_more pieces start count old new head c.of.result is grown c.loop-start.invariant.own;
    }

pub returns : goal.returns
returns c =
    are_groups_of c.loop-start.groups.items c.args.pieces.now c.loop-start.start c.loop-start-test.false
    c.loop-start.invariant.each c.loop-start.invariant.grouped c.loop-start.invariant.own
