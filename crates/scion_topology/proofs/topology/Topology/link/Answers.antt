-- The link at the place that was found is the one that the definitions find.
use Rattle.std.proofs.Common.{◌≡◌, ◌∙◌, sym, ap, get_or}
use Rattle.std.proofs.lemmas.Result.{err_from_is_err_and}
use Rattle.scion_topology.specs.Network.{Network}
use Rattle.scion_topology.proofs.Places.{known_link-place_in, known_link-place_in_err}
use Rattle.scion_topology.proofs.topology.Topology.link.Goals as goal

pub returns : goal.returns
returns c =
    let link = c.index.result.now in
    let at : link ≡ get_or c.args.self.now.links c.in_ok-place.place link = c.index.ensures ∙ ap (λ (n : Network). get_or n.links c.in_ok-place.place link) c.self.view_is in
    known_link-place_in c.args.self.now c.args.ia c.args.number c.in_ok-place.place link (sym c.in_ok-place.ensures.value) at

pub returns-in_err-place : goal.returns-in_err-place
returns-in_err-place c =
    let p = err_from_is_err_and c.from_residual.result c.from_residual.ensures.1 in rw (p.1, p.2) (known_link-place_in_err c.args.self.now c.args.ia c.args.number _ (sym c.in_err-place.ensures.value))
