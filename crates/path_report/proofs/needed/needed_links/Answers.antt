-- One link more, which all walks cross or some don't.
use Rattle.std.proofs.Common.{◌≡◌, List, rules, sym, ap, ◌∙◌, Some}
use Rattle.std.specs.Prelude.{map, slice_get}
use Rattle.std.proofs.lemmas.Option.{slice_get-get_or}
use Rattle.scion_topology.specs.declared.network.Link.{Link}
use Rattle.path_report.specs.declared.open_walk.OpenWalk.{OpenWalk}
use Rattle.path_report.specs.inner.Needed.{is_crossed}
use Rattle.path_report.proofs.Opening.{filter_next}
use Rattle.path_report.proofs.Placing.{all_cross}
use Rattle.path_report.proofs.needed.needed_links.Goals as goal
use Rattle.path_report.proofs.needed.needed_links.Goals.{then-do_cross+in_ok-push, else-do_cross}

pub loop-place-preserved : goal.loop-place-preserved
loop-place-preserved c =
    let n = c.args.topology.now in
    let walks = map (λ (walk : OpenWalk). walk.hops.now) c.args.walks.now in
    let there : slice_get n.links c.loop-place.place ≡ Some c.link-item.result =
    ap (λ (ls : List Link). slice_get ls c.loop-place.place) (sym c.links-link-items.ensures)
    ∙ slice_get-get_or c.links-link-items.result.now c.loop-place.place c.link-item.result c.loop-place-test.true ∙ ap Some (sym c.link-item.is) in
    let next = filter_next (is_crossed walks) n.links c.loop-place.place c.link-item.result there in
    let cross = c.do_cross.ensures ∙ all_cross n c.known.ensures c.loop-place.place c.link-item.result there c.args.walks.now c.requires in
    elim c.if-do_cross.branch [
      | then-do_cross+in_ok-push w ↦ search (rules, next, cross)
      | else-do_cross w ↦ search (rules, next, cross)
    ]
