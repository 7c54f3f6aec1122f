-- The interface of a number stands at its place.
use Rattle.std.proofs.Common.{sym, ap, ◌∙◌, Some, arith}
use Rattle.std.specs.Prelude.{slice_get}
use Rattle.std.specs.Option.{option_and_then}
use Rattle.std.proofs.lemmas.Option.{slice_get-get_or}
use Rattle.scion_topology.proofs.Tables.{interface_at_place, placed_within}
use Rattle.scion_topology.proofs.table.InterfaceTable.get.Goals as goal

pub index-requires : goal.index-requires
index-requires c =
    let table = c.self.inside.entries in
    let found = rw (← c.self.view_is) at c.in-Some.ensures in
    let below = placed_within table.items c.args.number c.in-Some.place (sym found) in
    omega (arith, below, table.ok)

pub returns-in-Some : goal.returns-in-Some
returns-in-Some c =
    let table = c.self.inside.entries.items in
    let found = rw (← c.self.view_is) at c.in-Some.ensures in
    let below = placed_within table c.args.number c.in-Some.place (sym found) in
    rw (← c.self.view_is) (ap Some c.index.ensures ∙ sym (slice_get-get_or table c.in-Some.place c.index.result.now below) ∙ ap (option_and_then (slice_get table)) found ∙ sym (interface_at_place table c.args.number))

pub returns-in-None : goal.returns-in-None
returns-in-None c =
    let table = c.args.self.now in
    ap (option_and_then (slice_get table)) c.in-None.ensures ∙ sym (interface_at_place table c.args.number)
