use Rattle.combinator.proofs.Collected.{item_in, whole_more, whole_all}
use Rattle.combinator.proofs.usable_pieces.add_cores.Goals as goal

pub loop-segment-preserved : goal.loop-segment-preserved
loop-segment-preserved c = record {
  more = λ piece there. c.in_ok-add_core.ensures.more piece (c.loop-segment.invariant.more piece there);
  own = λ set own all. c.in_ok-add_core.ensures.own set (item_in _ c.args.segments.now c.loop-segment.segment-index c.segment-item.result c.loop-segment-test.true c.segment-item.is own) (c.loop-segment.invariant.own set own all);
  all = whole_more c.args.segments.now c.loop-segment.segment-index c.segment-item.result c.loop-segment.usable_pieces.items c.add_core.new.usable_pieces.items
      c.loop-segment-test.true c.segment-item.is c.in_ok-add_core.ensures.more c.loop-segment.invariant.all c.in_ok-add_core.ensures.all;
}

pub returns-clause-all : goal.returns-clause-all
returns-clause-all c =
    whole_all c.args.segments.now c.loop-segment.segment-index c.loop-segment.usable_pieces.items c.loop-segment-test.false c.loop-segment.invariant.all
