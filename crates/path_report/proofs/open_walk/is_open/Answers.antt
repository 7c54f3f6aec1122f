use Rattle.std.proofs.Common.{List, ap, ◌∙◌}
use Rattle.scion_topology.specs.declared.network.Link.{Link}
use Rattle.path_report.specs.inner.Places.{are_up_at}
use Rattle.path_report.proofs.Placing.{are_up_where_open}
use Rattle.path_report.proofs.open_walk.is_open.Goals as goal

pub returns : goal.returns
returns c =
    let links = c.links.ensures in
    let places = c.deref.ensures.value ∙ c.in_ok-places.ensures.places in
    c.are_up_at.ensures ∙ ap (λ (ls : List Link). are_up_at ls c.deref.result.now) links
    ∙ ap (are_up_at c.args.topology.now.links) places
    ∙ are_up_where_open c.args.topology.now.links c.args.walk.now
