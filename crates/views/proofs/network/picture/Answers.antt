-- The topology of the network has the middle, and the network what is marked.
use Rattle.std.proofs.Common.{◌∙◌, ap, sym}
use Rattle.network_view.specs.Extent.{has_central}
use Rattle.views.proofs.Picture.{drawn}
use Rattle.views.proofs.network.picture.Goals as goal

pub returns-in_ok-marked_picture-in-Ok : goal.returns-in_ok-marked_picture-in-Ok
returns-in_ok-marked_picture-in-Ok c =
    drawn c.args.net.now c.args.extent.now c.args.subject c.topology-topology.result.now c.in-Ok.marks.0.now c.in-Ok.marks.1
    _ c.topology-topology.ensures
    (ap (has_central c.args.extent.now.centre) (sym c.ases.ensures) ∙ sym c.has_central.ensures ∙ c.if-not-has_central.false)
    c.in-Ok.ensures c.in_ok-marked_picture-in-Ok.ensures
