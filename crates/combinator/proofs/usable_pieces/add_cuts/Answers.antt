use Rattle.combinator.proofs.Collected.{item_in, cut_more, cut_all}
use Rattle.combinator.proofs.usable_pieces.add_cuts.Goals as goal

pub loop-segment-preserved : goal.loop-segment-preserved
loop-segment-preserved c = record {
  more = λ piece there. c.in_ok-add_cuts_of.ensures.more piece (c.loop-segment.invariant.more piece there);
  own = λ set own all. c.in_ok-add_cuts_of.ensures.own set (item_in _ c.args.segments.now c.loop-segment.segment-index c.segment-item.result c.loop-segment-test.true c.segment-item.is own) (c.loop-segment.invariant.own set own all);
  all = cut_more c.args.segments.now c.loop-segment.segment-index c.segment-item.result c.args.along c.args.outer c.loop-segment.usable_pieces.items c.add_cuts_of.new.usable_pieces.items
      c.loop-segment-test.true c.segment-item.is c.in_ok-add_cuts_of.ensures.more c.loop-segment.invariant.all c.in_ok-add_cuts_of.ensures.all;
}

pub returns-clause-all : goal.returns-clause-all
returns-clause-all c =
    cut_all c.args.segments.now c.loop-segment.segment-index c.args.along c.args.outer c.loop-segment.usable_pieces.items c.loop-segment-test.false c.loop-segment.invariant.all
