-- The picture of the ASes that are in a part of a network, and of those beside it.
use Rattle.std.proofs.Common.{◌≡◌, ℕ, Bool, List, Option, ap, ◌∙◌}
use Rattle.std.specs.Prelude.{count_by}
use Rattle.scion_topology.specs.Network.{Network}
use Rattle.policy_expr.specs.declared.hop.WalkHop.{WalkHop}
use Rattle.network_view.specs.declared.dot.Form.{Form}
use Rattle.network_view.specs.declared.extent.Extent.{Extent}
use Rattle.network_view.specs.declared.marks.Router.{Router}
use Rattle.network_view.specs.Dot.{dot_of, form_of, text_of}
use Rattle.network_view.specs.Extent.{is_drawn, is_inside, with_neighbours}

pub drawn_as : (network : Network) (extent : Extent) (passed : List WalkHop) (at : Option Router)
    (inside drawn : ℕ → Bool) (form : Form)
    → inside ≡ is_inside network extent → drawn ≡ with_neighbours network.links inside
    → form ≡ form_of (count_by (λ one. drawn one.ia) network.ases)
    → text_of form network inside drawn passed at ≡ dot_of network extent passed at
drawn_as network extent passed at inside drawn form inside_is drawn_is form_is =
    ap (λ (f : Form). text_of f network inside drawn passed at) form_is
    ∙ ap (λ (d : ℕ → Bool). text_of (form_of (count_by (λ one. d one.ia) network.ases)) network inside d passed at)
    (drawn_is ∙ ap (with_neighbours network.links) inside_is)
    ∙ ap (λ (i : ℕ → Bool). text_of (form_of (count_by (λ one. is_drawn network extent one.ia) network.ases)) network i
    (is_drawn network extent) passed at) inside_is
