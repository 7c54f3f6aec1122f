-- The AS at its place has the new key, and the index speaks of no key.
use Rattle.std.proofs.Common.{◌≡◌, ◌∙◌, sym, ap, refl, arith, length}
use Rattle.std.proofs.lemmas.Result.{err_from_is_err_and}
use Rattle.scion_topology.specs.Network.{Network}
use Rattle.scion_topology.specs.Index.{value_of_index}
use Rattle.scion_topology.proofs.Keyed.{rotated-unknown, rotated-bad, rotated-index_in, within-index_in, IsNetwork-rekeyed, index_from-keyed_at}
use Rattle.scion_topology.proofs.topology.Topology.rotate_key.Goals as goal

pub returns-in_err-index : goal.returns-in_err-index
returns-in_err-index c =
    let p = err_from_is_err_and c.from_residual.result c.from_residual.ensures.1 in rw (p.1, p.2) (rotated-unknown c.args.ia c.args.key.now c.args.self.now _ c.in_err-index.ensures, refl)

pub returns-in_err-key : goal.returns-in_err-key
returns-in_err-key c =
    let p = err_from_is_err_and c.from_residual-in_err-key.result c.from_residual-in_err-key.ensures.1 in rw (p.1, p.2)
    (rotated-bad c.args.ia c.args.key.now c.args.self.now c.in_ok-index.field-0-0.now (value_of_index c.in_ok-index.index.now) _ c.in_ok-index.ensures (sym c.in_err-key.ensures.value), refl)

pub put_key-requires : goal.put_key-requires
put_key-requires c =
    let within = within-index_in c.args.self.now c.args.ia c.in_ok-index.field-0-0.now (value_of_index c.in_ok-index.index.now) c.in_ok-index.ensures in
    let same : length c.self.inside.ases.items ≡ length c.args.self.now.ases = ap (λ (n : Network). length n.ases) c.self.view_is in
    omega (arith, within, same, c.self.inside.ases.ok)

pub invariant_of-self : goal.invariant_of-self
invariant_of-self c =
    let n : Network = record { ases = c.self.inside.ases.items; links = c.self.inside.links.items } in
    let place = c.in_ok-index.index.now.position in
    rw c.put_key.ensures (
      IsNetwork-rekeyed place c.in_ok-key.key n c.in_ok-key.ensures.fits c.self.invariant.0,
      λ ia. c.self.invariant.1 ia ∙ sym (index_from-keyed_at 0 place c.in_ok-key.key n.ases n.links ia),
    )

pub returns : goal.returns
returns c =
    let n : Network = record { ases = c.self.inside.ases.items; links = c.self.inside.links.items } in
    let found = rw (← c.self.view_is) at c.in_ok-index.ensures in
    rw (← c.self.view_is, c.put_key.ensures) (rotated-index_in c.args.ia c.args.key.now c.in_ok-key.key n c.in_ok-index.field-0-0.now (value_of_index c.in_ok-index.index.now) found (sym c.in_ok-key.ensures.value))
