-- The field that was written is the one that is read.
use Rattle.std.proofs.Common.{◌∙◌, ap}
use Rattle.router_step.specs.Done.{Situation}
use Rattle.router_step.specs.Place.{seg_id_on_arrival}
use Rattle.router_step.proofs.FieldReads.{info_of-arrived}
use Rattle.packet_view.proofs.situation.Situation.info_on_arrival.Goals as goal

pub returns : goal.returns
returns c =
    let at = c.args.self.now in
    let seg_id =
    c.seg_id_on_arrival.ensures ∙ ap (λ (a : Situation). seg_id_on_arrival a.arrival c.info-info.result c.hop.result) c.self.view_is in
    info_of-arrived at.arrival at.header c.info-info.result c.hop.result c.seg_id_on_arrival.result
    c.info-info.ensures.field c.info-info.ensures.within c.hop.ensures seg_id
