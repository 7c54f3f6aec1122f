-- At the place of an AS is its index.
use Rattle.std.proofs.Common.{sym, ap, Some, arith}
use Rattle.std.specs.Prelude.{slice_get}
use Rattle.std.proofs.lemmas.Option.{slice_get-get_or}
use Rattle.scion_topology.specs.Index.{value_of_index}
use Rattle.scion_topology.proofs.Indexes.{slice_get-bound}
use Rattle.scion_topology.proofs.Placing.{stands_there}
use Rattle.scion_topology.proofs.lookup.Indexes.get.Goals as goal

pub index-requires : goal.index-requires
index-requires c =
    let here = c.args.self.now in
    let there = stands_there (slice_get here.list.items c.in-Some.place) c.args.ia (here.own.found c.args.ia c.in-Some.place (sym c.in-Some.ensures)) in
    let below = slice_get-bound here.list.items c.in-Some.place there.0 there.1 in
    omega (arith, below, here.list.ok)

pub returns-in-Some : goal.returns-in-Some
returns-in-Some c =
    let here = c.args.self.now in
    let there = stands_there (slice_get here.list.items c.in-Some.place) c.args.ia (here.own.found c.args.ia c.in-Some.place (sym c.in-Some.ensures)) in
    let below = slice_get-bound here.list.items c.in-Some.place there.0 there.1 in
    rw (← c.in-Some.ensures, slice_get-get_or here.list.items c.in-Some.place c.index.result.now below) (ap (λ index. Some (value_of_index index)) c.index.ensures)
