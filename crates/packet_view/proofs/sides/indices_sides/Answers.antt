-- By the values of the parts.
use Rattle.std.proofs.Common.{◌∙◌, ap}
use Rattle.router_step.specs.Done.{Situation}
use Rattle.packet_view.specs.Fields.{indices_text, lens_text}
use Rattle.packet_view.specs.Sides.{arrival_text}
use Rattle.packet_view.proofs.Parts.{indices_parts}
use Rattle.packet_view.proofs.sides.indices_sides.Goals as goal

pub returns : goal.returns
returns c =
    indices_parts c.args.at.now.arrival c.args.at.now.header _ _ _ _
    (c.place_part.ensures ∙ ap (λ (a : Situation). indices_text a.header) c.at.view_is)
    c.segment.ensures
    (c.lens_part.ensures ∙ ap lens_text c.seg_lens.ensures ∙ ap (λ (a : Situation). lens_text a.header.lens) c.at.view_is)
    (c.arrival_part.ensures ∙ ap (λ (a : Situation). arrival_text a.arrival) c.at.view_is)
