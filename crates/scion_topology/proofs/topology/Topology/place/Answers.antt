-- The place beside an interface in its AS's table is that of its link.
use Rattle.std.proofs.Common.{◌∙◌, ap}
use Rattle.std.specs.Option.{ok_or}
use Rattle.scion_topology.specs.declared.fault.TopologyFault.TheVariants as faults
use Rattle.scion_topology.specs.Topology.{IsNetwork}
use Rattle.scion_topology.specs.Index.{value_of_index}
use Rattle.scion_topology.proofs.Places.{place_in-index, place_in-bound}
use Rattle.scion_topology.proofs.topology.Topology.place.Goals as goal

pub returns-clause-value : goal.returns-clause-value
returns-clause-value c =
    let network : IsNetwork c.args.self.now = rw (← c.self.view_is) c.self.invariant.0 in
    c.ok_or.ensures.value ∙ ap (λ o. ok_or o faults.NoLink) c.place.ensures
    ∙ place_in-index c.args.self.now c.args.ia c.args.number c.in_ok-index.field-0-0.now (value_of_index c.in_ok-index.index.now) network c.in_ok-index.ensures

pub returns-clause-bound : goal.returns-clause-bound
returns-clause-bound c = place_in-bound c.args.self.now c.args.ia c.args.number c.ok_or.result (returns-clause-value c)
