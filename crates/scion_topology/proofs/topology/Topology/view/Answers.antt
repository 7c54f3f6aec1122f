-- What a router of a network sees is a right view.
use Rattle.scion_topology.specs.Topology.{IsNetwork}
use Rattle.scion_topology.specs.Index.{value_of_index}
use Rattle.scion_topology.proofs.Places.{IsIndex-index_in}
use Rattle.scion_topology.proofs.Seeing.{IsSeen-known}
use Rattle.scion_topology.proofs.RightViews.{right}
use Rattle.scion_topology.proofs.topology.Topology.view.Goals as goal

pub of_parts-requires : goal.of_parts-requires
of_parts-requires c =
    let network : IsNetwork c.args.self.now = rw (← c.self.view_is) c.self.invariant.0 in
    let one = c.in_ok-one.one.now in
    let is = IsIndex-index_in c.args.self.now c.args.ia one (value_of_index c.in_ok-one.index.now) c.in_ok-one.ensures in
    let value_of_index = IsSeen-known c.args.self.now c.args.ia one network is.known in
    rw is.table (right c.args.ia c.args.router one.keys _ value_of_index.keys value_of_index.plain value_of_index.numbered value_of_index.once)
