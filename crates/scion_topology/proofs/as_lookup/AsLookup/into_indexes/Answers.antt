-- The indexes without links, to which the links were added, are those of the list.
use Rattle.std.proofs.Common.{◌∙◌, ap, option_map}
use Rattle.scion_topology.specs.inner.Index.{with_links}
use Rattle.scion_topology.proofs.Filling.{filled}
use Rattle.scion_topology.proofs.as_lookup.AsLookup.into_indexes.Goals as goal

pub returns : goal.returns
returns c = λ ia.
    let known = rw c.in_ok-indexes.was at c.self.invariant in
    c.in_ok-add_links.ensures ia ∙ ap (option_map (with_links 0 ia c.args.links.now)) (known ia) ∙ rw (← c.self.view_is) (filled 0 c.self.inside.ases.now c.args.links.now ia)
