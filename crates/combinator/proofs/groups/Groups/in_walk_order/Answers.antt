use Rattle.combinator.proofs.Grouped.{in_other_order}
use Rattle.combinator.proofs.groups.Groups.in_walk_order.Goals as goal

pub returns : goal.returns
returns c =
    in_other_order c.in_ok-sorted.sorted.items c.put_in_walk_order.new.groups.items c.args.pieces.now c.in_ok-sorted.ensures c.put_in_walk_order.ensures.same
