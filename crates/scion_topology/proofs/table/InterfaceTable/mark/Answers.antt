-- The interface at the place that was found is marked, and all keep their numbers.
use Rattle.std.proofs.Common.{◌∙◌, List, sym, ap, arith}
use Rattle.scion_topology.specs.declared.entry.IfEntry.{IfEntry}
use Rattle.scion_topology.specs.inner.Table.{place_in_table}
use Rattle.scion_topology.proofs.Tables.{placed_within, place-marked, marked-none, marked_at_place}
use Rattle.scion_topology.proofs.table.InterfaceTable.mark.Goals as goal

pub mark_at-requires : goal.mark_at-requires
mark_at-requires c =
    let table = c.self.inside.entries in
    let found = rw (← c.self.view_is) at c.in-Some.ensures in
    let below = placed_within table.items c.args.number c.in-Some.place (sym found) in
    omega (arith, below, table.ok)

pub invariant_of-self : goal.invariant_of-self
invariant_of-self c = λ number.
    let table = c.self.inside.entries.items in
    let found = rw (← c.self.view_is) at c.in-Some.ensures in
    c.self.invariant number ∙ sym (place-marked c.args.number c.args.up table number) ∙ ap (λ (t : List IfEntry). place_in_table t number) (sym (marked_at_place c.args.number c.args.up table c.mark_at.new.entries.items c.in-Some.place (sym found) c.mark_at.ensures))

pub returns-in-Some : goal.returns-in-Some
returns-in-Some c =
    let table = c.self.inside.entries.items in
    let found = rw (← c.self.view_is) at c.in-Some.ensures in
    rw (← c.self.view_is) (marked_at_place c.args.number c.args.up table c.mark_at.new.entries.items c.in-Some.place (sym found) c.mark_at.ensures)

pub returns-in_default : goal.returns-in_default
returns-in_default c = sym (marked-none c.args.number c.args.up c.args.self.now (sym c.in_default.ensures))
