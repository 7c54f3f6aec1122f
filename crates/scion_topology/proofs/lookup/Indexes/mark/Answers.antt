-- The index of this AS is marked, and each other index is as it was.
use Rattle.std.proofs.Common.{sym, arith}
use Rattle.std.specs.Prelude.{slice_get}
use Rattle.std.specs.Ordering.{nat_cmp}
use Rattle.std.specs.BTreeMap.{get}
use Rattle.scion_topology.specs.inner.Index.{with_state}
use Rattle.scion_topology.proofs.Indexes.{slice_get-bound}
use Rattle.scion_topology.proofs.Placing.{stands_there, own_changed, value_changed}
use Rattle.scion_topology.proofs.lookup.Indexes.mark.Goals as goal

pub mark_at-requires : goal.mark_at-requires
mark_at-requires c =
    let old = c.args.self.now in
    let there = stands_there (slice_get old.list.items c.in-Some.at) c.args.ia (old.own.found c.args.ia c.in-Some.at (sym c.in-Some.ensures)) in
    let below = slice_get-bound old.list.items c.in-Some.at there.0 there.1 in
    omega (arith, below, old.list.ok)

pub invariant_of-self : goal.invariant_of-self
invariant_of-self c =
    let old = c.args.self.now in
    let there = stands_there (slice_get old.list.items c.in-Some.at) c.args.ia (old.own.found c.args.ia c.in-Some.at (sym c.in-Some.ensures)) in
    let changed = c.mark_at.ensures there.0 there.1 in
    record { own = rw changed.1 (own_changed old.list.items (get nat_cmp old.places) c.in-Some.at there.0 changed.0 old.own there.1 changed.2) }

pub returns-in-Some : goal.returns-in-Some
returns-in-Some c = λ x.
    let old = c.args.self.now in
    let there = stands_there (slice_get old.list.items c.in-Some.at) c.args.ia (old.own.found c.args.ia c.in-Some.at (sym c.in-Some.ensures)) in
    let changed = c.mark_at.ensures there.0 there.1 in
    rw changed.1 (value_changed (with_state c.args.number c.args.up) old.list.items (get nat_cmp old.places) c.in-Some.at c.args.ia there.0 changed.0 old.own (sym c.in-Some.ensures) there.1 changed.3 x)
