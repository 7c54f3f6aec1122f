use Rattle.std.proofs.Common.{◌∙◌, ap}
use Rattle.std.specs.List.{insert}
use Rattle.path_server.specs.inner.Blocks.{Block}
use Rattle.path_server.proofs.Joined.{joined_insert}
use Rattle.path_server.proofs.blocks.Blocks.put.Goals as goal

pub returns : goal.returns
returns c =
    let d = c.index_mut.result.now in
    joined_insert c.args.self.now.blocks.items c.args.spot.block c.insert_place.new.index d c.args.spot.offset c.args.place
    c.requires.lies.0 (c.requires.lies.1 d)
    (c.insert_place.ensures ∙ ap (λ (b : Block). insert b.items c.args.spot.offset c.args.place) c.index_mut.ensures.value)
