-- The index has the index of each AS that is listed.
use Rattle.std.proofs.Common.{◌∙◌, sym, arith}
use Rattle.scion_topology.specs.Index.{value_of_index}
use Rattle.scion_topology.specs.Network.{Network}
use Rattle.scion_topology.proofs.Indexes.{index_in-none, index_in-some}
use Rattle.scion_topology.proofs.topology.Topology.as_and_index.Goals as goal

pub returns-in_default : goal.returns-in_default
returns-in_default c =
    let n : Network = record { ases = c.self.inside.ases.items; links = c.self.inside.links.items } in
    rw (← c.self.view_is) (index_in-none n c.args.ia (sym (c.self.invariant.1 c.args.ia) ∙ sym c.in_default.ensures))

pub index-requires : goal.index-requires
index-requires c =
    let n : Network = record { ases = c.self.inside.ases.items; links = c.self.inside.links.items } in
    let within = (index_in-some n c.args.ia (value_of_index c.in-Some.index.now) (sym (c.self.invariant.1 c.args.ia) ∙ sym c.in-Some.ensures)).within in
    omega (arith, within, c.self.inside.ases.ok)

pub returns : goal.returns
returns c =
    let n : Network = record { ases = c.self.inside.ases.items; links = c.self.inside.links.items } in
    rw (← c.self.view_is) ((index_in-some n c.args.ia (value_of_index c.in-Some.index.now) (sym (c.self.invariant.1 c.args.ia) ∙ sym c.in-Some.ensures)).gives c.index.result.now c.index.ensures)
