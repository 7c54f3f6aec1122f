-- The link at its place is set, and the two tables that it stands in.
use Rattle.std.proofs.Common.{◌≡◌, ◌∙◌, sym, ap, refl, arith, ◌<◌, length, Some}
use Rattle.std.specs.Prelude.{slice_get}
use Rattle.std.proofs.lemmas.Result.{err_from_is_err_and}
use Rattle.std.proofs.lemmas.Option.{slice_get-get_or}
use Rattle.scion_topology.specs.Network.{Network}
use Rattle.scion_topology.specs.Index.{index_of}
use Rattle.scion_topology.proofs.Relinked.{set_up-none, set_up-place_in, IsNetwork-relinked, marked_twice}
use Rattle.scion_topology.proofs.topology.Topology.set_link.Goals as goal

pub returns-in_err-place : goal.returns-in_err-place
returns-in_err-place c =
    let p = err_from_is_err_and c.from_residual.result c.from_residual.ensures.1 in rw (p.1, p.2) (set_up-none c.args.up c.args.ia c.args.number c.args.self.now _ (sym c.in_err-place.ensures.value), refl)

pub invariant_of-self : goal.invariant_of-self
invariant_of-self c =
    let n : Network = record { ases = c.self.inside.ases.items; links = c.self.inside.links.items } in
    let link = c.index-link.result.now in
    let same : length n.links ≡ length c.args.self.now.links = ap (λ (m : Network). length m.links) c.self.view_is in
    let below : c.in_ok-place.place < length n.links = omega (arith, same, c.in_ok-place.ensures.bound) in
    let found : slice_get n.links c.in_ok-place.place ≡ Some link = slice_get-get_or n.links c.in_ok-place.place link below ∙ ap Some (sym c.index-link.ensures) in
    rw c.put_up.ensures (
      IsNetwork-relinked c.in_ok-place.place c.args.up n c.self.invariant.0,
      marked_twice c.in_ok-place.place c.args.up n link
          (index_of c.self.inside.indexes) (index_of c.mark.new.self) (index_of c.mark-2.new.self)
          c.self.invariant.0 found c.self.invariant.1 c.mark.ensures c.mark-2.ensures,
    )

pub returns : goal.returns
returns c =
    let n : Network = record { ases = c.self.inside.ases.items; links = c.self.inside.links.items } in
    let found = rw (← c.self.view_is) at (sym c.in_ok-place.ensures.value) in
    rw (← c.self.view_is, c.put_up.ensures) (set_up-place_in c.args.up c.args.ia c.args.number c.in_ok-place.place n c.index-link.result.now found c.index-link.ensures)
