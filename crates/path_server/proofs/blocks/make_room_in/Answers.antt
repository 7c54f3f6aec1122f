use Rattle.std.proofs.Common.{rules, ◌∙◌, ap, arith}
use Rattle.path_server.specs.inner.Blocks.{Block}
use Rattle.path_server.proofs.Joined.{joined_same}
use Rattle.path_server.proofs.Cut.{joined_cut, cut_filled, cut_lies_low, cut_lies_high, cut_room_low, cut_room_high, cut_position_high}
use Rattle.path_server.proofs.blocks.make_room_in.Goals as goal

pub returns-in_err-try_reserve-clause-same : goal.returns-in_err-try_reserve-clause-same
returns-in_err-try_reserve-clause-same c =
    joined_same c.args.blocks.now.items c.args.spot.block c.try_reserve.new.self c.index_mut.result.now c.requires.lies.0
    (c.try_reserve.ensures.items ∙ ap (λ (b : Block). b.items) c.index_mut.ensures.value)

pub returns-then-len-lt-MAX_PLACES-clause-same : goal.returns-then-len-lt-MAX_PLACES-clause-same
returns-then-len-lt-MAX_PLACES-clause-same c =
    joined_same c.args.blocks.now.items c.args.spot.block c.try_reserve.new.self c.index_mut.result.now c.requires.lies.0
    (c.try_reserve.ensures.items ∙ ap (λ (b : Block). b.items) c.index_mut.ensures.value)

pub returns-then-spot-le-HALF-clause-same : goal.returns-then-spot-le-HALF-clause-same
returns-then-spot-le-HALF-clause-same c =
    joined_cut c.args.blocks.now.items c.args.spot.block c.cut.new.blocks.items c.index.result.now c.requires.lies.0 (search rules)

pub returns-then-spot-le-HALF-clause-filled : goal.returns-then-spot-le-HALF-clause-filled
returns-then-spot-le-HALF-clause-filled c =
    cut_filled c.args.blocks.now.items c.args.spot.block c.cut.new.blocks.items c.requires.lies.0 (search rules) c.requires.filled

pub returns-then-spot-le-HALF-clause-spot : goal.returns-then-spot-le-HALF-clause-spot
returns-then-spot-le-HALF-clause-spot c =
    cut_lies_low c.args.blocks.now.items c.args.spot.block c.args.spot.offset c.cut.new.blocks.items c.requires.lies.0 (search rules) (omega (arith, c.if-spot-le-HALF.true))

pub returns-then-spot-le-HALF-clause-room : goal.returns-then-spot-le-HALF-clause-room
returns-then-spot-le-HALF-clause-room c =
    cut_room_low c.args.blocks.now.items c.args.spot.block c.cut.new.blocks.items c.requires.lies.0 (search rules)

pub returns-else-spot-le-HALF-clause-same : goal.returns-else-spot-le-HALF-clause-same
returns-else-spot-le-HALF-clause-same c =
    joined_cut c.args.blocks.now.items c.args.spot.block c.cut.new.blocks.items c.index.result.now c.requires.lies.0 (search rules)

pub returns-else-spot-le-HALF-clause-filled : goal.returns-else-spot-le-HALF-clause-filled
returns-else-spot-le-HALF-clause-filled c =
    cut_filled c.args.blocks.now.items c.args.spot.block c.cut.new.blocks.items c.requires.lies.0 (search rules) c.requires.filled

pub returns-else-spot-le-HALF-clause-spot : goal.returns-else-spot-le-HALF-clause-spot
returns-else-spot-le-HALF-clause-spot c =
    let low = c.requires.lies.1 c.index.result.now in
    let few = (c.requires.filled c.args.spot.block c.index.result.now c.requires.lies.0).1 in
    cut_lies_high c.args.blocks.now.items c.args.spot.block c.args.spot.offset c.cut.new.blocks.items c.requires.lies.0 (search rules) (omega arith)

pub returns-else-spot-le-HALF-clause-position : goal.returns-else-spot-le-HALF-clause-position
returns-else-spot-le-HALF-clause-position c =
    cut_position_high c.args.blocks.now.items c.args.spot.block c.args.spot.offset c.cut.new.blocks.items c.requires.lies.0 (search rules) (omega (arith, c.if-spot-le-HALF.false))

pub returns-else-spot-le-HALF-clause-room : goal.returns-else-spot-le-HALF-clause-room
returns-else-spot-le-HALF-clause-room c =
    cut_room_high c.args.blocks.now.items c.args.spot.block c.cut.new.blocks.items c.requires.lies.0 (search rules)
